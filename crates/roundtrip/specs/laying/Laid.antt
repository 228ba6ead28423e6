-- Bytes laid out record by record: the one relation between bytes on one side and blocks and effects on the other,
-- which laying out makes and reading undoes. Rests on Form.
use Rattle.std.specs.Prelude.{List, [], ◌∷◌, ◌++◌, ◌≡◌, refl, ℕ, zero, suc, ◌+◌, ◌-◌, ◌≤◌, length, take, drop}
use Rattle.std.proofs.Common.{ap, sym, subst, ◌∙◌, zero-add, suc-add, arith, length-drop, take-take}
use Rattle.std.proofs.Math.Seq.{take-nil}
use Rattle.form.specs.declared.Block.{Block}
use Rattle.form.specs.declared.Effect.{Effect}
use Rattle.form.specs.Form.{block_bytes, effect_bytes, lay_effects, lay_blocks, sum_own}

-- The bytes of `own` effects that belong to a block before them, and then of these blocks, each followed by its own of
-- the effects
pub data Laid : List ℕ → ℕ → List Block → List Effect → Type 0 where
  none : Laid [] 0 [] []
  effect : {t : List ℕ} {own : ℕ} {ks : List Block} {es : List Effect} (e : Effect) → Laid t own ks es
      → Laid (effect_bytes e ++ t) (suc own) ks (e ∷ es)
  block : {t : List ℕ} {ks : List Block} {es : List Effect} (k : Block) → Laid t k.effects ks es
      → Laid (block_bytes k ++ t) 0 (k ∷ ks) es

pub laid_as : {t u : List ℕ} {own : ℕ} {ks : List Block} {es : List Effect} → t ≡ u → Laid t own ks es
    → Laid u own ks es
laid_as {own = own} {ks = ks} {es = es} e l = subst (λ (r : List ℕ). Laid r own ks es) e l

-- the bytes are those that the writer lays out
pub laid_bytes :
    {t : List ℕ} {own : ℕ} {ks : List Block} {es : List Effect} → Laid t own ks es
    → lay_effects (take own es) ++ lay_blocks ks (drop own es) ≡ t
unfolding lay_effects lay_blocks
laid_bytes none = refl
laid_bytes (effect e l) = ap (λ (r : List ℕ). effect_bytes e ++ r) (laid_bytes l)
laid_bytes (block k l) = ap (λ (r : List ℕ). block_bytes k ++ r) (laid_bytes l)

pub laid_from_start : {t : List ℕ} {own : ℕ} {ks : List Block} {es : List Effect} → Laid t own ks es → own ≡ 0
    → lay_blocks ks es ≡ t
unfolding lay_effects
laid_from_start {t} {own} {ks} {es} l none_early = laid_bytes (subst (λ (n : ℕ). Laid t n ks es) none_early l)

-- Laying out makes it, where the effects add up
pub lays_effects :
    (own : ℕ) (es : List Effect) (ks : List Block) → own ≤ length es
    → Laid (lay_blocks ks (drop own es)) 0 ks (drop own es)
    → Laid (lay_effects (take own es) ++ lay_blocks ks (drop own es)) own ks es
unfolding lay_effects
lays_effects zero es ks h l = l
lays_effects (suc own) [] ks h l = absurd (omega arith)
lays_effects (suc own) (e ∷ es) ks h l = effect e (lays_effects own es ks (omega arith) l)

pub lays : (ks : List Block) (es : List Effect) → sum_own ks ≡ length es → Laid (lay_blocks ks es) 0 ks es
unfolding lay_blocks sum_own
lays [] [] h = none
lays [] (e ∷ es) h = absurd (omega arith)
lays (k ∷ ks) es h = block k (lays_effects k.effects es ks (omega arith) (lays ks (drop k.effects es) rest))
  where
    rest : sum_own ks ≡ length (drop k.effects es)
    rest = simp length-drop (omega arith)

-- ---- effects past those that the blocks own are not laid out

drop_take : {A : Type 0} (n m : ℕ) (l : List A) → drop n (take (n + m) l) ≡ take m (drop n l)
drop_take zero m l = rw (zero-add m)
drop_take (suc n) m [] = rw (suc-add n m) (sym (take-nil m))
drop_take (suc n) m (x ∷ l) = rw (suc-add n m) (drop_take n m l)

pub lay_taken : (ks : List Block) (n : ℕ) (es : List Effect) → sum_own ks ≤ n
    → lay_blocks ks (take n es) ≡ lay_blocks ks es
unfolding lay_blocks sum_own
lay_taken [] n es h = refl
lay_taken (k ∷ ks) n es h =
    let own = k.effects in
    let m : n ≡ own + (n - own) = omega arith in
    let dropped : drop own (take n es) ≡ take (n - own) (drop own es) = ap (λ (j : ℕ). drop own (take j es)) m
    ∙ drop_take own (n - own) es in
    let rest = ap (lay_blocks ks) dropped ∙ lay_taken ks (n - own) (drop own es) (omega arith) in
    λ i. block_bytes k ++ (lay_effects (take-take own n es (omega arith) i) ++ rest i)
