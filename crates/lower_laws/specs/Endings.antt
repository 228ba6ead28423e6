-- The exits of a block by its ending: the one split into cases that the other laws cite (`by_ending`, `by_exits`),
-- and where each way leads. Rests on form's Conflict.
use Rattle.std.specs.Prelude.{◌≡◌, refl, ◌⊎◌, Bool, true, false, cond, ◌||◌, ◌&&◌, List, [], ◌∷◌, ℕ, zero, suc, ◌<◌, eqb, ltb}
use Rattle.std.proofs.Common.{sym, inl, inr, arith, eqb-true, le-ltb}
use Rattle.std.proofs.Math.Bool.{and-false, or-false}
use Rattle.laws.specs.Terms.{Mem, any_of}
use Rattle.form.specs.Form.{when}
use Rattle.form.specs.Conflict.{exits_by, way_to}

module _ (jump fall : ℕ) where
  -- what holds of an ending and its exits: 0 has none, 1 that by jump, 2 and 3 have both, and what is no ending has
  -- none
  pub by_ending :
      (P : ℕ → List (ℕ × ℕ) → Type 0) → P 0 [] → P 1 ((1, jump) ∷ []) → P 2 ((1, jump) ∷ (2, fall) ∷ [])
      → P 3 ((1, jump) ∷ (2, fall) ∷ [])
      → ((above : ℕ) → 3 < above → P above []) → (ending : ℕ) → P ending (exits_by ending jump fall)
  by_ending P ends goes branches tests none zero = ends
  by_ending P ends goes branches tests none (suc zero) = goes
  by_ending P ends goes branches tests none (suc (suc zero)) = branches
  by_ending P ends goes branches tests none (suc (suc (suc zero))) = tests
  by_ending P ends goes branches tests none (suc (suc (suc (suc m)))) = none (suc (suc (suc (suc m)))) (omega arith)

  -- the same where the ending does not matter
  pub by_exits : (P : List (ℕ × ℕ) → Type 0) → P [] → P ((1, jump) ∷ []) → P ((1, jump) ∷ (2, fall) ∷ [])
      → (ending : ℕ) → P (exits_by ending jump fall)
  by_exits P no_way one both = by_ending (λ e l. P l) no_way one both both (λ e h. no_way)

-- ---- where the ways lead

-- a way that leads to a block is an exit
pub way_real : (way : ℕ) (l : List (ℕ × ℕ)) → (way_to way l ≡ 64) ⊎ Mem (way, way_to way l) l
way_real way [] = inl refl
way_real way (o ∷ l) = go (eqb o.0 way) refl (way_real way l)
  where
    go : (t : Bool) → eqb o.0 way ≡ t → (way_to way l ≡ 64) ⊎ Mem (way, way_to way l) l
        → (cond t o.1 (way_to way l) ≡ 64) ⊎ Mem (way, cond t o.1 (way_to way l)) (o ∷ l)
    go true e m = let same = eqb-true o.0 way e in inr (inl (λ i. (sym same i, o.1)))
    go false e (inl none) = inl none
    go false e (inr m) = inr (inr m)

abbrev pub target : Bool → ℕ → ℕ
target has to = when has to 64

-- by the ending: 1 to 3 have a jump, 2 and 3 a fall
pub ways_lead :
    (ending jump fall : ℕ)
    → (way_to 1 (exits_by ending jump fall) ≡ target (ltb 0 ending && ltb ending 4) jump)
    × (way_to 2 (exits_by ending jump fall) ≡ target (ltb 1 ending && ltb ending 4) fall)
ways_lead ending jump fall =
    by_ending jump fall (λ e l. (way_to 1 l ≡ target (ltb 0 e && ltb e 4) jump) ×
    (way_to 2 l ≡ target (ltb 1 e && ltb e 4) fall)) (refl, refl) (refl, refl) (refl, refl)
    (refl, refl) none ending
  where
    none : (e : ℕ) → 3 < e → (64 ≡ target (ltb 0 e && ltb e 4) jump) × (64 ≡ target (ltb 1 e && ltb e 4) fall)
    none e h = let over = le-ltb e 4 h in (rw (over, and-false (ltb 0 e)), rw (over, and-false (ltb 1 e)))

-- some exit has what one of the ways has, where 64 has it not
pub some_exit : (X : ℕ → Bool) → X 64 ≡ false → (ending jump fall : ℕ)
    → any_of (λ o. X o.1) (exits_by ending jump fall) ≡
    (X (way_to 1 (exits_by ending jump fall)) || X (way_to 2 (exits_by ending jump fall)))
some_exit X none ending jump fall =
    by_exits jump fall (λ l. any_of (λ o. X o.1) l ≡ (X (way_to 1 l) || X (way_to 2 l))) (rw none) (rw none)
    (rw (or-false (X fall))) ending
