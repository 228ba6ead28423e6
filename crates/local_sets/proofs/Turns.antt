-- From what the words of tests say of one another to what form's Conflict says of the body: one effect, one more after
-- others, the edges of one test. Rests on Parts and on lower_laws' Effects and PairTest.
use Rattle.std.proofs.Common.{ℕ, ◌<◌, eqb, Bool, true, false, not, ◌&&◌, ◌||◌, cond, List, [], ◌∷◌, ◌++◌, get_or}
use Rattle.std.proofs.Common.{◌≡◌, refl, sym, ap, ap₂, ◌∙◌}
use Rattle.std.proofs.Math.Bool.{and-true, and-false, or-false}
use Rattle.std.proofs.Math.Option.{Option, none, some}
use Rattle.laws.specs.Terms.{bit, any_of}
use Rattle.laws.specs.Tests.{split, eqb_swap}
use Rattle.laws.specs.Sets.{bit_none}
use Rattle.form.specs.declared.Body.{Body}
use Rattle.form.specs.declared.Effect.{Effect}
use Rattle.form.specs.Conflict.{block, is_test, condition, met, later, last_on, refuses, contradict, opposes}
use Rattle.lower_laws.specs.PairTest.{shares, equal_is, contradict_is}
use Rattle.lower_laws.specs.Effects.{any_of_last, last_more, touch_turn}
use Rattle.local_sets.specs.declared.ByWay.{ByWay}
use Rattle.local_sets.specs.declared.Condition.{Condition}
use Rattle.local_sets.specs.declared.Tests.{Tests}
use Rattle.local_sets.specs.declared.Hits.{Hits}
use Rattle.local_sets.specs.Parts.{asked, nothing, conflict, TestsOf, ConflictsIn, HitsOf, Follows}

-- ---- effects

pub hits_none : (body : Body) (h : Hits) → h.touched ≡ 0 → h.denied.jump ≡ 0 → h.denied.fall ≡ 0
    → HitsOf body [] h
unfolding last_on
hits_none body h touched jump fall =
    record { touched = nowhere _ touched; jump = nowhere _ jump; fall = nowhere _ fall }
  where
    nowhere : (w : ℕ) → w ≡ 0 → (k : ℕ) → bit w k ≡ (is_test body k && false)
    nowhere w e k = rw (e, and-false (is_test body k)) (bit_none k)

-- at one bit: what the effects before denied, and what the new one, on the variable where e, denies
denied_turn : (t : Bool) (o : Option Effect) (e : Bool) (a : Effect) (c : _)
    → (((t && refuses o c) && not (t && e)) || (t && refuses (cond e (some a) none) c))
    ≡ (t && refuses (later o (cond e (some a) none)) c)
denied_turn true o true a c = rw (and-false (refuses o c))
denied_turn true o false a c = rw (and-true (refuses o c), or-false (refuses o c))
denied_turn false o e a c = refl

pub hits_more : (body : Body) (done : List Effect) (a : Effect) (old one new : Hits) → HitsOf body done old
    → HitsOf body (a ∷ []) one → Follows old one new → HitsOf body (done ++ a ∷ []) new
unfolding last_on
hits_more body done a old one new was is follows = record {
  touched = touches;
  jump = denies _ _ _ 1 was.jump is.jump follows.jump;
  fall = denies _ _ _ 2 was.fall is.fall follows.fall;
}
  where
    on : ℕ → Effect → Bool
    on k b = eqb b.variable (block body k).variable

    one_touched : (k : ℕ) → bit one.touched k ≡ (is_test body k && on k a)
    one_touched k = is.touched k ∙ ap (λ b. is_test body k && b) (or-false (on k a))

    touches : (k : ℕ) → bit new.touched k ≡ (is_test body k && any_of (on k) (done ++ a ∷ []))
    touches k = follows.touched k ∙ ap₂ ◌||◌ (was.touched k) (one_touched k)
        ∙ touch_turn (is_test body k) (any_of (on k) done) (on k a)
        ∙ ap (λ b. is_test body k && b) (sym (any_of_last (on k) done a))

    denies : (before after found way : ℕ)
        → ((k : ℕ) → bit before k
        ≡ (is_test body k && refuses (last_on (block body k).variable done) (condition body (k, way))))
        → ((k : ℕ) → bit found k
        ≡ (is_test body k && refuses (last_on (block body k).variable (a ∷ [])) (condition body (k, way))))
        → ((k : ℕ) → bit after k ≡ (bit before k && not (bit one.touched k)) || bit found k)
        → (k : ℕ) → bit after k
        ≡ (is_test body k && refuses (last_on (block body k).variable (done ++ a ∷ [])) (condition body (k, way)))
    denies before after one_denied way old found turn k =
        turn k ∙ ap₂ ◌||◌ (ap₂ (λ p q. p && not q) (old k) (one_touched k)) (found k)
        ∙ denied_turn (is_test body k) (last_on (block body k).variable done) (on k a) a (condition body (k, way))
        ∙ ap (λ o. is_test body k && refuses o (condition body (k, way)))
        (sym (last_more (block body k).variable done a))

-- ---- a body's tests

module _ (body : Body) (t : Tests) (of : TestsOf body t) where
  -- what the edges by a way ask is their condition
  abbrev Asks : ℕ → (ByWay Condition → Condition) → Type 0
  Asks way by = (k : ℕ) → condition body (k, way)
      ≡ record {
        variable = (block body k).variable;
        relation = (by (asked (block body k))).relation;
        constant = (by (asked (block body k))).constant;
      }

  jumps_ask : Asks 1 (λ e. e.jump)
  unfolding condition
  jumps_ask k = refl

  falls_ask : Asks 2 (λ e. e.fall)
  unfolding condition
  falls_ask k = refl

  -- ---- one effect
  module _ (a : Effect) (v : ℕ) (is : v ≡ a.variable) (small : v < 256) where
    on_is : (k : ℕ) → bit (get_or t.on v 0) k ≡ (is_test body k && eqb a.variable (block body k).variable)
    on_is k = of.on v small k
        ∙ ap (λ b. is_test body k && b)
        (eqb_swap (block body k).variable v ∙ ap (λ v. eqb v (block body k).variable) is)

    refuses_one : (e : Bool) (c : _)
        → ((eqb a.how 1 && e) && not (met c a.constant)) ≡ refuses (cond e (some a) none) c
    refuses_one true c = rw (and-true (eqb a.how 1))
    refuses_one false c = rw (and-false (eqb a.how 1))

    denied_one : (way : ℕ) (by : ByWay Condition → Condition) → Asks way by → (set r : ℕ)
        → ((k : ℕ) → bit set k ≡ eqb a.how 1 && bit (get_or t.on v 0) k)
        → ((k : ℕ) → bit r k
        ≡ bit set k && conflict (record { relation = 0; constant = a.constant }) (by (get_or t.edges k nothing)))
        → (k : ℕ) → bit r k
        ≡ (is_test body k && refuses (last_on (block body k).variable (a ∷ [])) (condition body (k, way)))
    unfolding last_on
    denied_one way by asks set r chosen found k =
        found k ∙ ap (λ b. b && not (shares 0 a.constant d.relation d.constant))
        (chosen k ∙ ap (λ b. eqb a.how 1 && b) (on_is k))
        ∙ split (is_test body k)
        (λ here. rw (
          here,
          ap by (of.edges k here),
          asks k,
          equal_is a.constant (by (asked (block body k))).relation
              (by (asked (block body k))).constant,
        )
        (refuses_one (eqb a.variable (block body k).variable) _))
        (λ off. rw (off, and-false (eqb a.how 1)))
      where
        d : Condition
        d = by (get_or t.edges k nothing)

    pub hit_is : (set : ℕ) (r : ByWay ℕ)
        → ((k : ℕ) → bit set k ≡ eqb a.how 1 && bit (get_or t.on v 0) k)
        → ConflictsIn t.edges set (record { relation = 0; constant = a.constant }) r
        → HitsOf body (a ∷ []) (record { touched = get_or t.on v 0; denied = r })
    hit_is set r chosen found = record {
      touched = λ k. on_is k
          ∙ ap (λ b. is_test body k && b) (sym (or-false (eqb a.variable (block body k).variable)));
      jump = denied_one 1 (λ e. e.jump) jumps_ask set r.jump chosen found.jump;
      fall = denied_one 2 (λ e. e.fall) falls_ask set r.fall chosen found.fall;
    }

  -- ---- the edges of one test
  conflict_is : (b k : ℕ) (one two : ℕ) (by to : ByWay Condition → Condition) → Asks one by → Asks two to
      → is_test body b ≡ true → is_test body k ≡ true
      → (eqb (block body k).variable (block body b).variable
      && conflict (by (get_or t.edges b nothing)) (to (get_or t.edges k nothing)))
      ≡ contradict (condition body (b, one)) (condition body (k, two))
  conflict_is b k one two by to asks knows here there =
      rw (ap by (of.edges b here), ap to (of.edges k there), asks b, knows k, eqb_swap (block body k).variable)
      (sym (contradict_is _ _))

  opposed_is : (b alike r : ℕ) (one two : ℕ) (by to : ByWay Condition → Condition) → Asks one by → Asks two to
      → ((k : ℕ) → bit alike k
      ≡ is_test body b && (is_test body k && eqb (block body k).variable (block body b).variable))
      → ((k : ℕ) → bit r k ≡ bit alike k && conflict (by (get_or t.edges b nothing)) (to (get_or t.edges k nothing)))
      → (k : ℕ) → bit r k ≡ opposes body (b, one) (k, two)
  unfolding opposes
  opposed_is b alike r one two by to asks knows on found k =
      found k ∙ ap (λ z. z && conflict (by (get_or t.edges b nothing)) (to (get_or t.edges k nothing))) (on k)
      ∙ split (is_test body b)
      (λ here. split (is_test body k)
      (λ there. rw (here, there) (conflict_is b k one two by to asks knows here there))
      (λ off. rw (here, off)))
      (λ off. rw off)

  -- where `alike` has the tests on the variable of test b
  module _ (b alike : ℕ) (on : (k : ℕ)
      → bit alike k ≡ is_test body b && bit (get_or t.on (block body b).variable 0) k)
      (small : (block body b).variable < 256) where
    alike_is : (k : ℕ) → bit alike k
        ≡ is_test body b && (is_test body k && eqb (block body k).variable (block body b).variable)
    alike_is k = on k ∙ ap (λ z. is_test body b && z) (of.on (block body b).variable small k)

    abbrev Row : ℕ → ByWay ℕ → Type 0
    Row one r =
        ((k : ℕ) → bit r.jump k ≡ opposes body (b, one) (k, 1))
        × ((k : ℕ) → bit r.fall k ≡ opposes body (b, one) (k, 2))

    pub jumping_is : (r : ByWay ℕ) → ConflictsIn t.edges alike (get_or t.edges b nothing).jump r → Row 1 r
    jumping_is r found = (
      opposed_is b alike r.jump 1 1 (λ e. e.jump) (λ e. e.jump) jumps_ask jumps_ask alike_is found.jump,
      opposed_is b alike r.fall 1 2 (λ e. e.jump) (λ e. e.fall) jumps_ask falls_ask alike_is found.fall,
    )

    pub falling_is : (r : ByWay ℕ) → ConflictsIn t.edges alike (get_or t.edges b nothing).fall r → Row 2 r
    falling_is r found = (
      opposed_is b alike r.jump 2 1 (λ e. e.fall) (λ e. e.jump) falls_ask jumps_ask alike_is found.jump,
      opposed_is b alike r.fall 2 2 (λ e. e.fall) (λ e. e.fall) falls_ask falls_ask alike_is found.fall,
    )
