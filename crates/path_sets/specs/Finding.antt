-- From what the functions' words and lists say of one another to what they say of the body: the sets and all that is
-- found are as defined (`sets_are`, `found_are`), and what that tells bit by bit (`found_told`). Rests on Parts, on
-- sets' Local and Found and on lower_laws' Joined.
use Rattle.std.specs.Prelude.{◌≡◌, ◌⊎◌, Bool, true, false, not, ◌&&◌, ◌||◌, List, ℕ, ◌≤◌, ◌<◌, get_or}
use Rattle.std.proofs.Math.Path.{refl, ap, subst}
use Rattle.std.proofs.Common.{sym, ◌∙◌, inl, inr, arith}
use Rattle.std.proofs.Math.Dec.{eqb}
use Rattle.laws.specs.Terms.{bit, any, any_of}
use Rattle.laws.specs.Tests.{split, any_same, any_none}
use Rattle.laws.specs.Sets.{bit_none, below_or_not}
use Rattle.words.specs.Tabled.{tabled, rows}
use Rattle.words.specs.Filled.{Told, told_as, told_rows, rows_bit, rows_told, tabled_at, tabled_length}
use Rattle.form.specs.declared.Body.{Body}
use Rattle.form.specs.Conflict.{Edge, no_block, block, touches, exits, way_to, is_test, condition, opposes}
use Rattle.form.specs.Conflict.{denies, Sound, clean, assigned, crossed, listed, conflicts}
use Rattle.lower_laws.specs.Blocks.{beyond}
use Rattle.lower_laws.specs.Listed.{Way}
use Rattle.lower_laws.specs.Joined.{past_count, no_test, denies_none, denies_test, opposes_first, opposes_test}
use Rattle.lower_laws.specs.Joined.{assigned_none, by_way, way_none, paired, paired_none, test_real, clean_top}
use Rattle.lower_laws.specs.Joined.{clean_step, some_way, listed_way, listed_none}
use Rattle.sets.specs.declared.Local.{Local}
use Rattle.sets.specs.declared.Edges.{Edges}
use Rattle.sets.specs.declared.Firsts.{Firsts}
use Rattle.sets.specs.declared.Sets.{Sets}
use Rattle.sets.specs.declared.Found.{Found}
use Rattle.sets.specs.Local.{local_of}
use Rattle.sets.specs.Found.{sets_of, firsts_of, found_of}
use Rattle.path_sets.specs.declared.Leads.{Leads}
use Rattle.path_sets.specs.Parts.{Paths, ByPaths, led, LeadsOf, pairs, ListedAt, FirstsOf}
use Rattle.path_sets.specs.Parts.{FirstsBy, FoundBy, sets_with, Listed, SetsBy}

module _ (body : Body) (few : body.count ≤ 64) where
  -- ---- past the blocks nothing is in a set
  none_past : (k : ℕ) → 64 ≤ k → block body k ≡ no_block
  none_past k h = past_count body k (omega arith)

  off : (k : ℕ) → 64 ≤ k → is_test body k ≡ false
  off k h = no_test body k (none_past k h)

  assigned_off : (j : ℕ) (e : Edge) → 64 ≤ j → assigned body j e ≡ false
  assigned_off j e h = assigned_none body j e (denies_none body j e (none_past j h))

  way_off : (to j : ℕ) (e : Edge) → 64 ≤ j → by_way body to j e ≡ false
  way_off to j e h = way_none body to j e (opposes_first body (j, to) e (off j h))

  -- ---- the firsts of the edges by one way, whole and bit by bit
  module _ (way : ℕ) (p : Firsts) where
    firsts_told : p ≡ firsts_of body way → FirstsBy body way p
    unfolding firsts_of by_way
    firsts_told e = subst (FirstsBy body way) (sym e) (record {
      assigned = rows_told (λ s j. assigned body j (s, way)) (λ s j h. assigned_off j (s, way) h);
      jumps = rows_told (λ s j. by_way body 1 j (s, way)) (λ s j h. way_off 1 j (s, way) h);
      falls = rows_told (λ s j. by_way body 2 j (s, way)) (λ s j h. way_off 2 j (s, way) h);
    })

    firsts_are : FirstsBy body way p → p ≡ firsts_of body way
    unfolding firsts_of by_way
    firsts_are f = λ i. record {
      assigned = told_rows (λ s j. assigned body j (s, way)) (λ s j h. assigned_off j (s, way) h) p.assigned
          f.assigned i;
      jump = told_rows (λ s j. by_way body 1 j (s, way)) (λ s j h. way_off 1 j (s, way) h) p.jump f.jumps i;
      fall = told_rows (λ s j. by_way body 2 j (s, way)) (λ s j h. way_off 2 j (s, way) h) p.fall f.falls i;
    }

  pub found_told : (f : Found) → f ≡ found_of body → FoundBy body f
  unfolding found_of
  found_told f e = subst (FoundBy body) (sym e) (record {
    variables = record {
      size = tabled_length (λ k. (block body k).variable) 64;
      at = λ k h. tabled_at
          (λ k. (block body k).variable) 64 k 0 h;
    };
    jumped = firsts_told 1 (firsts_of body 1) refl;
    fallen = firsts_told 2 (firsts_of body 2) refl;
  })

module _ (body : Body) (sound : Sound body) where
  few : body.count ≤ 64
  few = sound.few

  -- ---- what the blocks say by themselves
  abbrev targets : (way : ℕ) → List ℕ
  targets way = tabled 64 (λ b. way_to way (exits body b))

  abbrev touching : ℕ → ℕ → Bool
  touching b k = is_test body k && touches body b (block body k).variable

  abbrev denying : (way : ℕ) → ℕ → ℕ → Bool
  denying way b k = denies body b (k, way)

  abbrev opposing : (one two : ℕ) → ℕ → ℕ → Bool
  opposing one two b k = opposes body (b, one) (k, two)

  target_is : (way b : ℕ) → b < 64 → get_or (targets way) b 64 ≡ way_to way (exits body b)
  target_is way b h = tabled_at (λ b. way_to way (exits body b)) 64 b 64 h

  -- what the rows of f have at block j together with another list: nothing past the blocks
  masked : (f : ℕ → ℕ → Bool) (l : List ℕ) (j s : ℕ) (t : Bool) → ((b k : ℕ) → 64 ≤ k → f b k ≡ false)
      → (64 ≤ j → t ≡ false) → (j < 64 → (f j s && bit (get_or l j 0) s) ≡ t)
      → (bit (get_or (rows f) j 0) s && bit (get_or l j 0) s) ≡ t
  masked f l j s t none past in_row = go (below_or_not j 64)
    where
      go : (j < 64) ⊎ (64 ≤ j) → (bit (get_or (rows f) j 0) s && bit (get_or l j 0) s) ≡ t
      go (inl h) = ap (λ (a : Bool). a && bit (get_or l j 0) s) (rows_bit f none j h s) ∙ in_row h
      go (inr h) = ap (λ x. bit x s && bit (get_or l j 0) s)
          (beyond (rows f) j 0 (omega (arith, (rows_told f none).size))) ∙ rw (bit_none s) (sym (past h))

  -- ---- clean paths
  abbrev leading : ℕ → ℕ → Bool
  leading s b = clean body (block body s).variable body.count b s

  paths_of : (s : ℕ) → is_test body s ≡ true → Paths (targets 1) (targets 2) (rows touching) s (leading s)
  paths_of s e =
      let real = test_real body s e in
      record {
        step = λ b h.
            clean_step body sound.onward (block body s).variable s real few b
            ∙ (λ i. not (sym (touched b h) i) &&
            (eqb b s || (leading s (sym (target_is 1 b h) i) || leading s (sym (target_is 2 b h) i))));
        top = λ b h. clean_top body sound.onward (block body s).variable s real b (omega arith);
      }
    where
      touched : (b : ℕ) → b < 64 → bit (get_or (rows touching) b 0) s ≡ touches body b (block body s).variable
      touched b h = rows_bit touching (λ b k m. rw (off body few k m)) b h s
          ∙ ap (λ a. a && touches body b (block body s).variable) e

  -- ---- the firsts of the edges by one way
  module _ (l : Leads) (leads : LeadsOf (targets 1) (targets 2) (rows touching) l) (way : ℕ) where
    on : (s : ℕ) → (condition body (s, way)).variable ≡ (block body s).variable
    unfolding condition
    on s = refl

    assigned_bit : (j s : ℕ) → (bit (get_or (rows (denying way)) j 0) s && bit (get_or l.ahead j 0) s)
        ≡ assigned body j (s, way)
    unfolding assigned
    assigned_bit j s = masked (denying way) l.ahead j s (assigned body j (s, way))
        (λ b k h. denies_test body b (k, way) (off body few k h)) (assigned_off body few j (s, way))
        (λ h. split (is_test body s)
        (λ e. ap (λ a. denies body j (s, way) && a)
        (leads.aheads.at j h s (leading s) (paths_of s e)
        ∙ (λ i. eqb j s || (leading s (target_is 1 j h i) || leading s (target_is 2 j h i)))
        ∙ ap (λ a. eqb j s || a) (sym
        (some_way body sound.onward (block body s).variable s (test_real body s e) few j))
        ∙ (λ i. eqb j s || any_of (λ o. clean body (sym (on s) i) body.count o.1 s) (exits body j))))
        (λ e. let d = denies_test body j (s, way) e in rw d))

    -- by the firsts' edges, each way of theirs
    way_bit : (to : ℕ) (m : List ℕ)
        → Told 0 (ByPaths (targets 1) (targets 2) (rows touching) (led (targets to))) 64 64 m
        → (j s : ℕ) → (bit (get_or (rows (opposing to way)) j 0) s && bit (get_or m j 0) s) ≡ by_way body to j (s, way)
    unfolding by_way crossed
    way_bit to m told j s = masked (opposing to way) m j s (by_way body to j (s, way))
        (λ b k h. opposes_test body (b, to) (k, way) (off body few k h)) (way_off body few to j (s, way))
        (λ h. split (is_test body s)
        (λ e. ap (λ a. opposes body (j, to) (s, way) && a)
        (told.at j h s (leading s) (paths_of s e)
        ∙ (λ i. clean body (sym (on s) i) body.count (target_is to j h i) s)))
        (λ e. let d = opposes_test body (j, to) (s, way) e in rw d))

    firsts_by : (p : Firsts)
        → FirstsOf l (rows (denying way)) (rows (opposing 1 way)) (rows (opposing 2 way)) p → FirstsBy body way p
    firsts_by p f = record {
      assigned = told_as 0 _ 64 _ p.assigned f.assigned (λ s x h q j. q j ∙ assigned_bit j s);
      jumps = told_as 0 _ 64 _ p.jump f.jumps (λ s x h q j. q j ∙ way_bit 1 l.jump leads.jumps j s);
      falls = told_as 0 _ 64 _ p.fall f.falls (λ s x h q j. q j ∙ way_bit 2 l.fall leads.falls j s);
    }

    -- ---- the edges with a first below a block
    pair_bit : (f s : ℕ) → pairs l (rows (denying way)) (rows (opposing 1 way)) (rows (opposing 2 way)) f s
        ≡ paired body f (s, way)
    unfolding paired
    pair_bit f s = λ i. assigned_bit f s i
        || (way_bit 1 l.jump leads.jumps f s i || way_bit 2 l.fall leads.falls f s i)

    listed_off : (b s : ℕ) → 64 ≤ s → listed (conflicts body) b (s, way) ≡ false
    listed_off b s h = listed_none body few b (s, way) (off body few s h)

    listed_is : Way way → (m : List ℕ)
        → Told 0 (ListedAt l (rows (denying way)) (rows (opposing 1 way)) (rows (opposing 2 way))) 64 64 m
        → m ≡ rows (λ b k. listed (conflicts body) b (k, way))
    listed_is is_way m told = told_rows (λ b k. listed (conflicts body) b (k, way)) listed_off m
        (told_as 0 _ 64 _ m told
        (λ b x h q k. q k ∙ any_same b _ _ (λ f. pair_bit f k) ∙ go b h k (below_or_not k 64)))
      where
        go : (b : ℕ) → b < 64 → (k : ℕ) → (k < 64) ⊎ (64 ≤ k)
            → any b (λ f. paired body f (k, way)) ≡ listed (conflicts body) b (k, way)
        go b h k (inl g) = listed_way body few b k way is_way (omega arith) g
        go b h k (inr g) = any_same b _ (λ f. false) (λ f. paired_none body f (k, way) (off body few k g))
            ∙ any_none b ∙ sym (listed_off b k g)

  -- ---- all of it, from what the blocks say by themselves
  -- the lists of clean paths, and of the firsts, as the functions say
  abbrev Led : Local → Leads → Type 0
  Led own l = LeadsOf own.targets.jump own.targets.fall own.touched l

  abbrev Paired : Local → Leads → (jumped fallen : Firsts) → Type 0
  Paired own l jumped fallen =
      FirstsOf l own.denied.jump own.jumping.jump own.falling.jump jumped
      × FirstsOf l own.denied.fall own.jumping.fall own.falling.fall fallen

  module _ (l : Leads) where
    sets_own : (x : Edges) → Led (local_of body) l → Listed (local_of body) l x
        → sets_with (local_of body) x ≡ sets_of body
    unfolding local_of sets_of
    sets_own x leads of = λ i. record {
      targets = (local_of body).targets;
      touched = (local_of body).touched;
      denied = (local_of body).denied;
      jumping = (local_of body).jumping;
      falling = (local_of body).falling;
      listed = record {
        jump = listed_is l leads 1 (inl refl) x.jump of.0 i;
        fall = listed_is l leads 2 (inr refl) x.fall of.1 i;
      };
    }

    pub sets_are : (own : Local) → own ≡ local_of body → (r : Sets) → Led own l → SetsBy own l r → r ≡ sets_of body
    sets_are own is r leads by = by.0 ∙ subst
        (λ (w : Local). Led w l → Listed w l r.listed → sets_with w r.listed ≡ sets_of body) (sym is)
        (sets_own r.listed) leads by.1

    module _ (sets : Sets) (jumped fallen : Firsts) where
      abbrev found_with : Local → Found
      found_with own = record { sets = sets; variable = own.variable; jumped = jumped; fallen = fallen }

      found_own : sets ≡ sets_of body → Led (local_of body) l → Paired (local_of body) l jumped fallen
          → found_with (local_of body) ≡ found_of body
      unfolding local_of found_of
      found_own same leads of = λ i. record {
        sets = same i;
        variable = (local_of body).variable;
        jumped = firsts_are body few 1 jumped (firsts_by l leads 1 jumped of.0) i;
        fallen = firsts_are body few 2 fallen (firsts_by l leads 2 fallen of.1) i;
      }

      pub found_are : (own : Local) → own ≡ local_of body → sets ≡ sets_of body → Led own l
          → Paired own l jumped fallen → found_with own ≡ found_of body
      found_are own is same = subst (λ (w : Local). Led w l → Paired w l jumped fallen → found_with w ≡ found_of body)
          (sym is) (found_own same)
