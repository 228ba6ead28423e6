-- The laws of a turn of the full walk: the sets of the code are the forward machine's state, and the two ways in order
-- are the theory's turn. Rests on Terms and on theory's Walk, Forward and Edges.
use Rattle.std.specs.Prelude.{◌≡◌, refl, Bool, true, false, not, cond, ◌||◌, ◌&&◌, List, [], ◌∷◌, ◌++◌}
use Rattle.std.specs.Prelude.{ℕ, suc, ◌+◌, ◌-◌, ◌*◌, ◌^◌, ◌<◌, ◌≤◌, eqb, ltb, Some, None}
use Rattle.std.proofs.Common.{sym, ap, ap₂, subst, ◌∙◌, inl, inr, add-one, arith}
use Rattle.std.proofs.Common.{eq-eqb, ne_eqb, ltb-true, ltb-false, lt-ltb}
use Rattle.std.proofs.Math.Bool.{and-false, or-false}
use Rattle.std.proofs.Math.Option.{Option, none, some}
use Rattle.std.specs.Int.Bits.{bit_or}
use Rattle.std.proofs.lemmas.Nat.{or_lt}
use Rattle.std.proofs.Math.Pow.{pow-lt}
use Rattle.laws.specs.Terms.{Mem, Choice, preferred, bit}
use Rattle.laws.specs.Tests.{split, clash, is_false, and_out, or_out, or_none, not_out}
use Rattle.laws.specs.Sets.{ext, bit_with}
use Rattle.laws.specs.Orders.{preference}
use Rattle.form.specs.declared.Body.{Body}
use Rattle.form.specs.Conflict.{exits, is_test, condition, touches, opposes, denies, Sound}
use Rattle.lower_laws.specs.Joined.{denies_test, opposes_test}
use Rattle.theory.specs.Row.{Key}
use Rattle.theory.specs.Edges.{has, has_none, edges_words, no_edges}
use Rattle.theory.specs.Walk.{keep_first, and_then, if_step, branch, walk_eq, tally_by}
use Rattle.theory.specs.Forward.{on_machine, entered, banned, step_on}
use Rattle.theory.specs.Ties.{mark}
use Rattle.theory.specs.SweepWords.{Words}
use Rattle.theory.specs.WalkWords.{advance, finish, nothing}
use Rattle.theory.specs.Main.{walk_answer}
use Rattle.theory.specs.Range.{up_to, up_next, up_on}
use Rattle.theory.specs.PlanWays.{by_way_lem, by_jump, by_fall}
use Rattle.theory.specs.Plan.{target_at, cost_at, IsWay, Planned, PlanOf}
use Rattle.search.specs.declared.Found.{Found}
use Rattle.search.specs.Terms.{kept_in, so_far, tallied, Standing, Barred, Entered, Barring, counting, walk_from}
use Rattle.search.specs.Terms.{Walks, is_open, open_target, Took, Searched}
use Rattle.search.specs.Terms.Took.{stays, goes}

-- ---- the two ways, and the two sides of a set of edges

-- what is done to both sides of a set of edges alike
pub by_sides : (s r : Key) (done : (k side : ℕ) → Bool → Bool) → ((k : ℕ) → bit r.0 k ≡ done k 1 (bit s.0 k))
    → ((k : ℕ) → bit r.1 k ≡ done k 2 (bit s.1 k))
    → (k side : ℕ) → IsWay side → has r (k, side) ≡ done k side (has s (k, side))
unfolding has
by_sides s r done j f k = by_way_lem (λ side. has r (k, side) ≡ done k side (has s (k, side))) (j k) (f k)

-- ---- words

-- a set with one more number, where the test holds
pub put_is : (x k r : ℕ) (t : Bool) → x < 2 ^ 64 → r < 2 ^ 64 → k < 64
    → ((j : ℕ) → bit r j ≡ (bit x j || (t && eqb j k))) → r ≡ cond t (bit_or x (2 ^ k)) x
put_is x k r true p q h bits = ext 64 q (or_lt 64 x (2 ^ k) p (pow-lt h)) (λ j l. bits j ∙ sym (bit_with x k j))
put_is x k r false p q h bits = ext 64 q p (λ j l. bits j ∙ or-false (bit x j))

-- ---- where a way leads

module _ {body : Body} {cost : ℕ → ℕ → ℕ} {plan : List ℕ} (p : Planned body cost plan) (g : Sound body) (b : ℕ)
    (h : b < body.count) where
  exit_by_lem : (way : ℕ) → IsWay way → target_at plan b way < 64 → Mem (way, target_at plan b way) (exits body b)
  exit_by_lem = by_way_lem (λ way. target_at plan b way < 64 → Mem (way, target_at plan b way) (exits body b))
      (λ l. rw (p.ways b h, lt-ltb (target_at plan b 1) 64 l) (inl refl))
      (λ l. rw (p.ways b h, lt-ltb (target_at plan b 2) 64 l) (last (ltb (target_at plan b 1) 64)))
    where
      last : (c : Bool) → Mem {A = ℕ × ℕ} (2, target_at plan b 2)
          (cond c ((1, target_at plan b 1) ∷ []) [] ++ ((2, target_at plan b 2) ∷ []))
      last true = inr (inl refl)
      last false = inl refl

  -- to a block above
  pub leads : (way : ℕ) → IsWay way → target_at plan b way < 64
      → (b < target_at plan b way) × (target_at plan b way < body.count)
  leads way w l = (
    g.onward.above b (way, target_at plan b way) (exit_by_lem way w l),
    g.onward.inside b
        (way, target_at plan b way) (exit_by_lem way w l),
  )

-- ---- the machine's state as words

-- an effect matters only on what is banned, and only tests are
only_tests : (x t w d : Bool) → (x ≡ true → t ≡ true) → (x && not (t && w) || d) ≡ (x && not w || d)
only_tests true t w d h = rw (h refl)
only_tests false t w d h = refl

-- what fails where the block is no test
test_of : {a t : Bool} → (t ≡ false → a ≡ false) → a ≡ true → t ≡ true
test_of {a} {t} h y = split t (λ e. e) (λ e. clash y (h e))

module _ {body : Body} {cost : ℕ → ℕ → ℕ} {plan : List ℕ} (p : Planned body cost plan) (b : ℕ) (h : b < body.count)
    (s here : Key) (bars : Barred body s) (e : Entered plan b s here) where
  pub entered_here : (k side : ℕ) → IsWay side → k < body.count → has here (k, side) ≡ entered body b s (k, side)
  unfolding condition
  entered_here k side v l = e k side v ∙ rw (p.touched b k h l, p.denied b k side v h l)
      (only_tests (has s (k, side)) (is_test body k) (touches body b (condition body (k, 1)).variable)
      (denies body b (k, side)) (bars.tests k side v l))

  -- the state after a step, from its words
  module _ (g : Sound body) (way : ℕ) (w : IsWay way) (next : Key) (l : Barring plan b way here next) where
    next_has : (k side : ℕ) → IsWay side → k < body.count
        → has next (k, side) ≡ (entered body b s (k, side) || opposes body (b, way) (k, side))
    next_has k side v i = l.edges k side v ∙ ap₂ ◌||◌ (entered_here k side v i) (p.against b way k side w v h i)

    next_past : (k side : ℕ) → IsWay side → body.count ≤ k → has next (k, side) ≡ false
    next_past k side v i =
        let (low, high) = v in
        let (from, to) = w in
        l.edges k side v ∙ or_none (e k side v
        ∙ rw (bars.within k side v i) (p.within b (3 + side) k (omega arith) (omega arith) h i))
        (p.within b (3 + 2 * way + side) k (omega arith) (omega arith) h i)

    pub next_banned : next ≡ banned body (b, way) s
    unfolding banned has
    next_banned =
        edges_words body.count 64 g.few (λ x. entered body b s x || opposes body (b, way) x) next.0 next.1
        l.small_jumps l.small_falls
        (λ k. next_has k 1 by_jump) (λ k. next_has k 2 by_fall) (λ k. next_past k 1 by_jump)
        (λ k. next_past k 2 by_fall)

    test_banned : (k side : ℕ) → (has s (k, side) ≡ true → is_test body k ≡ true)
        → (entered body b s (k, side) || opposes body (b, way) (k, side)) ≡ true → is_test body k ≡ true
    test_banned k side known t =
        or_out (entered body b s (k, side)) _ t
        (λ x. or_out (has s (k, side) && not (touches body b (condition body (k, side)).variable)) _ x
        (λ y. known (and_out (has s (k, side)) _ y).0) (λ y. test_of (λ f. denies_test body b (k, side) f) y))
        (λ x. test_of (λ f. opposes_test body (b, way) (k, side) f) x)

    pub next_bars : Barred body next
    next_bars = record {
      tests = λ k side v i t. test_banned k side (bars.tests k side v i) (sym (next_has k side v i) ∙ t);
      within = next_past;
    }

    pub next_carried : (c on : Words) → on ≡ advance (cost_at plan) (b, way) c → on ≡ advance cost (b, way) c
    next_carried c on same = same ∙ λ i.
        (c.0 + p.costs b way h i, (mark 1 (b, way) c.1.0, mark 2 (b, way) c.1.1))

-- ---- one more beginning

module _ (choice : Choice) where
  -- the tests: the budget is passed, the block is the last
  counts : (over last : Bool) (walked : ℕ) (kept : Option Words) (v : Words)
      → cond over none (some (suc walked, cond last (keep_first (preferred choice) kept v) kept))
      ≡ tally_by (preferred choice) over last (walked, kept) v
  counts true last walked kept v = refl
  counts false true walked kept v = refl
  counts false false walked kept v = refl

  pub visit_is : (cost : ℕ → ℕ → ℕ) (count budget b : ℕ) (c : Words) (found r : Found) (last : Bool)
      → eqb (suc b) count ≡ last → r.walked ≡ found.walked + 1
      → let kept = kept_in choice found.best in
      kept_in choice r.best ≡ cond last (keep_first (preferred choice) kept (finish cost (b, c))) kept
      → tallied choice budget r ≡ counting choice cost count budget (so_far choice found) (b, c)
  visit_is cost count budget b c found r last l w k =
      (λ i. cond (ltb budget ((w ∙ add-one found.walked) i)) none (some ((w ∙ add-one found.walked) i, k i)))
      ∙ counts (ltb budget (suc found.walked)) last found.walked (kept_in choice found.best) (finish cost (b, c))
      ∙ ap (λ d. tally_by (preferred choice) (ltb budget (suc found.walked)) d (so_far choice found)
      (finish cost (b, c))) (sym l)

-- ---- of the route kept, or none, and a new one

module _ (choice : Choice) (any : ℕ) (held v : Words) where
  abbrev Keeps : Words → Type 0
  Keeps r = some r ≡ keep_first (preferred choice) (cond (eqb any 1) (some held) none) v

  pub keeps_old : {better : Bool} → any ≡ 1 → better ≡ preferred choice v.0 held.0 → better ≡ false → Keeps held
  keeps_old e is worse = rw (eq-eqb any 1 e, sym is ∙ worse)

  pub keeps_new : {better : Bool} → any ≡ 1 → better ≡ preferred choice v.0 held.0 → better ≡ true → Keeps v
  keeps_new e is better = rw (eq-eqb any 1 e, sym is ∙ better)

  pub keeps_first : (any ≡ 1 → ⊥) → Keeps v
  keeps_first d = rw (ne_eqb any 1 d)

-- ---- the turn

module _ {A : Type 0} where
  then_some : (o : Option A) → and_then o some ≡ o
  then_some none = refl
  then_some (some a) = refl

  then_assoc : (o : Option A) (f g : A → Option A) → and_then (and_then o f) g ≡ and_then o (λ a. and_then (f a) g)
  then_assoc none f g = refl
  then_assoc (some a) f g = refl

module _ (choice : Choice) (body : Body) (cost : ℕ → ℕ → ℕ) (budget b : ℕ) (s : Key) (c : Words) where
  abbrev counted : ℕ × Option Words → ℕ × Words → Option (ℕ × Option Words)
  counted = counting choice cost body.count budget

  -- by an exit of block b
  abbrev taken : (way target : ℕ) → ℕ × Option Words → Option (ℕ × Option Words)
  taken way target a = if_step (on_machine body cost) (advance cost) counted (step_on body (b, way) s)
      (λ u. walk_from choice body cost budget target u (advance cost (b, way) c)) a

  -- by a way of block b, where it has one
  abbrev pub by_way : (way target : ℕ) → ℕ × Option Words → Option (ℕ × Option Words)
  by_way way target a = cond (ltb target 64) (taken way target a) (some a)

  abbrev branches : List (ℕ × ℕ) → ℕ × Option Words → Option (ℕ × Option Words)
  branches os a = branch (on_machine body cost) (advance cost) counted
      (λ t u e. walk_from choice body cost budget t u e) b s c os a

  two_ways : (w v : Bool) (t u : ℕ) (a : ℕ × Option Words)
      → branches (cond w ((1, t) ∷ []) [] ++ cond v ((2, u) ∷ []) []) a ≡ and_then (cond w (taken 1 t a) (some a))
      (λ d. cond v (taken 2 u d) (some d))
  two_ways true true t u a = λ i. and_then (taken 1 t a) (λ d. then_some (taken 2 u d) i)
  two_ways true false t u a = refl
  two_ways false true t u a = then_some (taken 2 u a)
  two_ways false false t u a = refl

  turn : Sound body → (plan : List ℕ) → Planned body cost plan → b < body.count → (a : ℕ × Option Words)
      → walk_from choice body cost budget b s c a ≡ and_then (counted a (b, c))
      (λ d. and_then (by_way 1 (target_at plan b 1) d) (by_way 2 (target_at plan b 2)))
  turn g plan p h a =
      walk_eq (on_machine body cost) (record { on = g.onward.above; inside = g.onward.inside })
      (advance cost) counted b s c a h
      ∙ λ i. and_then (counted a (b, c))
      (λ d. (ap (λ os. branches os d) (p.ways b h)
      ∙ two_ways (ltb (target_at plan b 1) 64) (ltb (target_at plan b 2) 64) (target_at plan b 1)
      (target_at plan b 2) d) i)

  -- the tests: the budget is passed, the way exists, its edge is banned
  way_is : (way target : ℕ) (first next : Found) (over is shut : Bool) → ltb budget first.walked ≡ over
      → ltb target 64 ≡ is → entered body b s (b, way) ≡ shut
      → (((is && not shut) && not over) ≡ false → next ≡ first)
      → (((is && not shut) && not over) ≡ true
      → tallied choice budget next ≡ walk_from choice body cost budget target (banned body (b, way) s)
      (advance cost (b, way) c) (so_far choice first))
      → tallied choice budget next ≡ and_then (tallied choice budget first) (by_way way target)
  way_is way target first next true is shut p q r same more =
      ap (tallied choice budget) (same (and-false (is && not shut))) ∙ rw p
  way_is way target first next false false shut p q r same more = ap (tallied choice budget) (same refl) ∙ rw (p, q)
  way_is way target first next false true true p q r same more = ap (tallied choice budget) (same refl) ∙ rw (p, q, r)
  way_is way target first next false true false p q r same more = more refl ∙ rw (p, q, r)

-- ---- what the recursion owes, from its two ways

module _ (choice : Choice) {body : Body} {cost : ℕ → ℕ → ℕ} {plan : List ℕ} (p : Planned body cost plan)
    (g : Sound body) (budget b : ℕ) (h : b < body.count) (s here : Key) (c : Words)
    (bars : Barred body s) (e : Entered plan b s here) where
  abbrev by : ℕ → ℕ × Option Words → Option (ℕ × Option Words)
  by way = by_way choice body cost budget b s c way (target_at plan b way)

  one_way : (way : ℕ) (w : IsWay way) (found r : Found) → Took choice plan body.count budget b way here c found r
      → tallied choice budget r ≡ and_then (tallied choice budget found) (by way)
  one_way way w found r (stays o same) =
      way_is choice body cost budget b s c way (target_at plan b way) found r _ _ _ refl refl
      (sym (entered_here p b h s here bars e b way w h)) (λ _. same) (λ t. clash t o)
  one_way way w found r (goes o next l on carried walks) =
      way_is choice body cost budget b s c way (target_at plan b way) found r _ _ _ refl refl
      (sym (entered_here p b h s here bars e b way w h)) (λ f. clash o f)
      (λ _. walks body cost p g refl (next_bars p b h s here bars e g way w next l)
      ∙ λ i. walk_from choice body cost budget (target_at plan b way) (next_banned p b h s here bars e g way w next l i)
      (next_carried p b h s here bars e g way w next l c on carried i) (so_far choice found))

  all_ways : (found first second r : Found)
      → tallied choice budget first ≡ counting choice (cost_at plan) body.count budget (so_far choice found) (b, c)
      → Took choice plan body.count budget b 1 here c first second
      → Took choice plan body.count budget b 2 here c second r
      → tallied choice budget r ≡ walk_from choice body cost budget b s c (so_far choice found)
  all_ways found first second r v j f =
      one_way 2 by_fall second r f
      ∙ ap (λ o. and_then o (by 2)) (one_way 1 by_jump first second j)
      ∙ then_assoc (tallied choice budget first) (by 1) (by 2)
      ∙ ap (λ o. and_then o (λ d. and_then (by 1 d) (by 2))) (v ∙ same)
      ∙ sym (turn choice body cost budget b s c g plan p h (so_far choice found))
    where
      same : counting choice (cost_at plan) body.count budget (so_far choice found) (b, c)
          ≡ counting choice cost body.count budget (so_far choice found) (b, c)
      same = λ i. tally_by (preferred choice) (ltb budget (suc found.walked)) (eqb (suc b) body.count)
          (so_far choice found) (c.0 + p.costs b 0 h i, c.1)

module _ (choice : Choice) {plan : List ℕ} {count budget b : ℕ} where
  pub walks : b < count → (s here : Key) (c : Words) → Entered plan b s here → (found first second r : Found)
      → tallied choice budget first ≡ counting choice (cost_at plan) count budget (so_far choice found) (b, c)
      → Took choice plan count budget b 1 here c first second → Took choice plan count budget b 2 here c second r
      → Walks choice plan count budget b s c found r
  walks h s here c e found first second r v j f body cost p g size bars =
      all_ways choice p g budget b (rw size h) s here c bars e found first second r (rw size v)
      (subst (λ n. Took choice plan n budget b 1 here c first second) (sym size) j)
      (subst (λ n. Took choice plan n budget b 2 here c second r) (sym size) f)

-- the last block has no way on
pub walks_last : (choice : Choice) (plan : List ℕ) (count budget b : ℕ) → b + 1 ≡ count → (s : Key) (c : Words)
    → (found r : Found)
    → tallied choice budget r ≡ counting choice (cost_at plan) count budget (so_far choice found) (b, c)
    → Walks choice plan count budget b s c found r
walks_last choice plan count budget b last s c found r v body cost p g size bars =
    v ∙ same ∙ sym
    (turn choice body cost budget b s c g plan p own (so_far choice found)
    ∙ (λ i. and_then (counted choice body cost budget b s c (so_far choice found) (b, c))
    (λ d. and_then (by 1 (none 1 by_jump i) d) (by 2 (none 2 by_fall i))))
    ∙ then_some (counted choice body cost budget b s c (so_far choice found) (b, c)))
  where
    own : b < body.count
    own = omega (arith, size)

    none : (way : ℕ) → IsWay way → ltb (target_at plan b way) 64 ≡ false
    none way w = is_false (ltb (target_at plan b way) 64)
        (λ l. let (above, inside) = leads p g b own way w (ltb-true (target_at plan b way) 64 l) in omega (arith, size))

    -- by a way, where it is there
    by : (way : ℕ) → Bool → ℕ × Option Words → Option (ℕ × Option Words)
    by way is a = cond is (taken choice body cost budget b s c way (target_at plan b way) a) (some a)

    same : counting choice (cost_at plan) count budget (so_far choice found) (b, c)
        ≡ counting choice cost body.count budget (so_far choice found) (b, c)
    same = λ i. tally_by (preferred choice) (ltb budget (suc found.walked)) (eqb (suc b) (sym size i))
        (so_far choice found) (c.0 + p.costs b 0 own i, c.1)

-- what a way comes to, from the test of the code and its call
pub open_is : (plan : List ℕ) (b way : ℕ) (here : Key) (walked budget : ℕ) {target : ℕ} {banned o : Bool}
    → target ≡ target_at plan b way → has here (b, way) ≡ banned
    → o ≡ is_open target banned walked budget → is_open (target_at plan b way) (has here (b, way)) walked budget ≡ o
open_is plan b way here walked budget is edge test = (λ i. is_open (sym is i) (edge i) walked budget) ∙ sym test

-- and from where the code has it lead
module _ (plan : List ℕ) (b way : ℕ) (here : Key) (walked budget : ℕ) {edge : Bool}
    (is : has here (b, way) ≡ edge) where
  abbrev Opens : Bool → Type 0
  Opens o = is_open (target_at plan b way) (has here (b, way)) walked budget ≡ o

  pub opened : {t : ℕ} → Some t ≡ open_target (target_at plan b way) edge walked budget
      → Opens true × (t ≡ target_at plan b way)
  opened {t} e = by (is_open (target_at plan b way) edge walked budget) refl e
    where
      by : (o : Bool) → is_open (target_at plan b way) edge walked budget ≡ o
          → Some t ≡ cond o (Some (target_at plan b way)) None → Opens true × (t ≡ target_at plan b way)
      by true i e = (rw is i, cc)
      by false i e = absurd (cc)

  pub shut : None ≡ open_target (target_at plan b way) edge walked budget → Opens false
  shut e = by (is_open (target_at plan b way) edge walked budget) refl e
    where
      by : (o : Bool) → is_open (target_at plan b way) edge walked budget ≡ o
          → None ≡ cond o (Some (target_at plan b way)) None → Opens false
      by true i e = absurd (cc)
      by false i e = rw is i

pub took_goes : {choice : Choice} {plan : List ℕ} {count budget b way : ℕ} {here next : Key} {c on : Words}
    {found r : Found} {target : ℕ} → is_open (target_at plan b way) (has here (b, way)) found.walked budget ≡ true
    → target ≡ target_at plan b way → Barring plan b way here next → on ≡ advance (cost_at plan) (b, way) c
    → Walks choice plan count budget target next on found r → Took choice plan count budget b way here c found r
took_goes {choice = choice} {plan = plan} {count = count} {budget = budget} {next = next} {on = on} {found = found}
    {r = r} o is l carried walked =
    goes o next l on carried (subst (λ n. Walks choice plan count budget n next on found r) is walked)

-- the edges that a side's word has
pub jump_edge : (s : Key) (k : ℕ) → has s (k, 1) ≡ bit s.0 k
unfolding has
jump_edge s k = refl

pub fall_edge : (s : Key) (k : ℕ) → has s (k, 2) ≡ bit s.1 k
unfolding has
fall_edge s k = refl

-- ---- what a block of the walk may count on

module _ {plan : List ℕ} {count budget b weight before : ℕ} (s : Standing plan count budget b weight before) where
  own : b < s.of.body.count
  own = omega (arith, s.inside, s.of.size)

  -- a step's cost keeps the weight to what the blocks up to this one come to
  pub costs_few : (way : ℕ) → (b < 64) × (weight + cost_at plan b way ≤ up_to s.of.range.most (suc b))
      × (weight + cost_at plan b way < 2 ^ 64)
  costs_few way =
      let most = s.of.range.most in
      let next = up_next most b in
      let all = up_on most (suc b) s.of.body.count (own) in
      let cost = s.of.planned.costs b way own in
      let each = s.of.range.each b way own in (
        omega (arith, own, s.of.sound.few),
        omega (arith, next, cost, each, s.small),
        omega (arith, next, all, cost, each, s.small, s.of.range.all),
      )

  pub open_leads : (way : ℕ) → IsWay way → (banned : Bool) (walked : ℕ)
      → is_open (target_at plan b way) banned walked budget ≡ true
      → (b < target_at plan b way) × (target_at plan b way < count) × (walked ≤ budget)
  open_leads way w banned walked o =
      let (p, q) = and_out (ltb (target_at plan b way) 64 && not banned) (not (ltb budget walked)) o in
      let (above, inside) = leads s.of.planned s.of.sound b own way w
      (ltb-true (target_at plan b way) 64 (and_out (ltb (target_at plan b way) 64) _ p).0) in
      (above, omega (arith, inside, s.of.size), ltb-false budget walked (not_out (ltb budget walked) q))

  -- a call at the target
  pub onward : (way : ℕ) → IsWay way → (target : ℕ) → target ≡ target_at plan b way → (here : Key) (walked : ℕ)
      → is_open (target_at plan b way) (has here (b, way)) walked budget ≡ true
      → (on : ℕ) → on ≡ weight + cost_at plan b way
      → (count - target < count - b) × Standing plan count budget target on walked
  onward way w target is here walked o on more =
      let (above, inside, left) = open_leads way w (has here (b, way)) walked o in
      let few = (costs_few way).1 in
      let below = up_on s.of.range.most (suc b) target (omega arith) in (
        omega (arith, s.inside),
        record { of = s.of; inside = omega arith; small = omega arith; counted = left; fits = s.fits },
      )

  -- the last block has no way on
  pub took_none : {choice : Choice} (way : ℕ) → IsWay way → (here : Key) (c : Words) (found : Found)
      → b + 1 ≡ count → Took choice plan count budget b way here c found found
  took_none way w here c found last =
      stays (is_false (is_open (target_at plan b way) (has here (b, way)) found.walked budget)
      (λ o. let (above, inside, left) = open_leads way w (has here (b, way)) found.walked o in omega arith)) refl

-- ---- from block 0 on

pub standing_first : (plan : List ℕ) (count budget : ℕ) → PlanOf plan count → budget < 4294967296
    → Standing plan count budget 0 0 0
standing_first plan count budget of fits = record {
  of = of;
  inside = omega (arith, of.sound.some, of.size);
  small = omega arith;
  counted = omega arith;
  fits = fits;
}

-- nothing is banned, carried or found before it
pub searched : (choice : Choice) (plan : List ℕ) (count budget : ℕ) (s : Key) (c : Words) (found r : Found)
    → s ≡ no_edges → c ≡ nothing → found ≡ record { walked = 0; best = None }
    → Walks choice plan count budget 0 s c found r → Searched choice plan count budget r
searched choice plan count budget s c found r none_banned none_left none_found w body cost p g size =
    w body cost p g size (subst (Barred body) (sym none_banned) free)
    ∙ (λ i. walk_from choice body cost budget 0 (none_banned i) (none_left i) (so_far choice (none_found i)))
    ∙ walk_answer body g cost (preferred choice) (preference choice) budget
  where
    free : Barred body no_edges
    free = record { tests = λ k side v l t. clash t (has_none (k, side)); within = λ k side v l. has_none (k, side) }
