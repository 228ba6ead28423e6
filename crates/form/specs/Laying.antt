-- Laws of the writer's counts and of laying out. Rests on Form.
use Rattle.std.specs.Prelude.{Bool, true, false, ◌&&◌, List, [], ◌∷◌, ◌++◌, ◌≡◌, refl, ℕ, zero, suc, ◌+◌, ◌≤◌, ◌<◌, leb, eqb, length, get_or, take, drop}
use Rattle.std.proofs.Math.Bool.{and-false}
use Rattle.std.proofs.lemmas.Bool.{false≢true}
use Rattle.std.proofs.Common.{append_assoc, append-nil, ap, sym, ◌∙◌, add-one, arith, drop-cons, drop-drop}
use borrow.Author.Tests.{lt-leb, le-leb, eq-eqb, ne_eqb, leb-true, eqb-true}
use Rattle.form.specs.declared.Block.{Block}
use Rattle.form.specs.declared.Effect.{Effect}
use Rattle.form.specs.declared.Body.{Body}
use Rattle.form.specs.Form.{zero_block, zero_effect, block_bytes, effect_bytes, lay_effects, lay_blocks, sum_own}
use Rattle.form.specs.Form.{counts_fit}

-- The counts.

abbrev pub blocks_counted : Body → List Block
blocks_counted body = take body.count body.blocks

pub over_blocks : (body : Body) → 64 < body.count → false ≡ counts_fit body
unfolding counts_fit
over_blocks body h = rw (lt-leb body.count 64 h)

pub over_effects : (body : Body) → 256 < body.total → false ≡ counts_fit body
unfolding counts_fit
over_effects body h = rw (lt-leb body.total 256 h, and-false (leb body.count 64))

module _ (body : Body) (b : body.count ≤ 64) (e : body.total ≤ 256) where
  pub within_counts : counts_fit body ≡ eqb (sum_own (blocks_counted body)) body.total
  unfolding counts_fit
  within_counts = rw (le-leb body.count 64 b, le-leb body.total 256 e)

-- One block's own effects, and those of the blocks after it; past the end there are none
pub sum_step : (l : List Block) (k : ℕ) → sum_own (drop k l) ≡ (get_or l k zero_block).effects + sum_own (drop (suc k) l)
unfolding sum_own
sum_step [] zero = refl
sum_step [] (suc k) = refl
sum_step (x ∷ l) zero = refl
sum_step (x ∷ l) (suc k) = sum_step l k

drop_all : (n : ℕ) (ks : List Block) → drop n (take n ks) ≡ []
drop_all zero ks = refl
drop_all (suc n) [] = refl
drop_all (suc n) (k ∷ ks) = drop_all n ks

none_left : (n k : ℕ) → k ≡ n → (ks : List Block) → drop k (take n ks) ≡ []
none_left n k e ks = rw e (drop_all n ks)

-- a sum less what it lacks is whole exactly when it lacks nothing
pub lacks : (sum left total : ℕ) → sum + left ≡ total → eqb left 0 ≡ eqb sum total
lacks sum zero total h = eq-eqb zero 0 refl ∙ sym (eq-eqb sum total (omega arith))
lacks sum (suc left) total h = ne_eqb (suc left) 0 (λ e. omega arith) ∙ sym (ne_eqb sum total (λ e. omega arith))

-- one effect more
effects_more :
    (l : List Effect) (j : ℕ) → j < length l
    → lay_effects (take (suc j) l) ≡ lay_effects (take j l) ++ effect_bytes (get_or l j zero_effect)
unfolding lay_effects
effects_more [] j h = absurd (omega arith)
effects_more (e ∷ l) zero h = refl
effects_more (e ∷ l) (suc j) h =
    ap (λ (r : List ℕ). effect_bytes e ++ r) (effects_more l j (omega arith))

pub effects_none : (l : List Effect) → lay_effects (take 0 l) ≡ []
unfolding lay_effects
effects_none l = refl

-- a turn of laying out effects
pub effects_next :
    (l : List Effect) (j : ℕ) (bytes : List ℕ) → j < length l → bytes ≡ effect_bytes (get_or l j zero_effect)
    → lay_effects (take j l) ++ bytes ≡ lay_effects (take (j + 1) l)
effects_next l j bytes h e =
    ap (λ (r : List ℕ). lay_effects (take j l) ++ r) e ∙ sym (effects_more l j h)
    ∙ ap (λ (n : ℕ). lay_effects (take n l)) (sym (add-one j))

-- A body's blocks: those laid out so far, and the rest of the whole.
blocks_step :
    (ks : List Block) (k : ℕ) (es : List Effect) → k < length ks → (b : Block) → get_or ks k zero_block ≡ b
    → lay_blocks (drop k ks) es
    ≡ block_bytes b ++ (lay_effects (take b.effects es) ++ lay_blocks (drop (suc k) ks) (drop b.effects es))
unfolding lay_blocks
blocks_step ks k es h b e = rw (drop-cons ks k zero_block h, e)

pub blocks_laid :
    (ks : List Block) (k : ℕ) (es : List Effect) (e : ℕ) → k < length ks → (b : Block) → get_or ks k zero_block ≡ b
    → (before after whole : List ℕ) → before ++ lay_blocks (drop k ks) (drop e es) ≡ whole
    → after ≡ before ++ (block_bytes b ++ lay_effects (take b.effects (drop e es)))
    → after ++ lay_blocks (drop (suc k) ks) (drop (e + b.effects) es) ≡ whole
blocks_laid ks k es e h b g before after whole w a =
    let own = lay_effects (take b.effects (drop e es)) in
    let rest = lay_blocks (drop (suc k) ks) (drop b.effects (drop e es)) in
    (λ i. a i ++ lay_blocks (drop (suc k) ks) (sym (drop-drop b.effects e es) i))
    ∙ (append_assoc before (block_bytes b ++ own) rest
    ∙ (ap (λ (l : List ℕ). before ++ l) (append_assoc (block_bytes b) own rest
    ∙ sym (blocks_step ks k (drop e es) h b g)) ∙ w))

-- at the end no block is left
pub blocks_end :
    (n k : ℕ) → k ≡ n → (ks : List Block) (es : List Effect) (before whole : List ℕ)
    → before ++ lay_blocks (drop k (take n ks)) es ≡ whole → before ≡ whole
unfolding lay_blocks
blocks_end n k e ks es before whole w =
    sym (append-nil before) ∙ (ap (λ (l : List Block). before ++ lay_blocks l es) (sym (none_left n k e ks)) ∙ w)

pub sum_end : (n k : ℕ) → k ≡ n → (ks : List Block) → sum_own (drop k (take n ks)) ≡ 0
unfolding sum_own
sum_end n k e ks = ap sum_own (none_left n k e ks)

-- what the counts of a body that fits say
pub counts_known : (body : Body) → counts_fit body ≡ true → (body.count ≤ 64) × (sum_own (blocks_counted body) ≤ 256)
unfolding counts_fit
counts_known body h = go (leb body.count 64) (leb body.total 256)
    (eqb (sum_own (blocks_counted body)) body.total) refl refl refl h
  where
    go :
        (a b c : Bool) → leb body.count 64 ≡ a → leb body.total 256 ≡ b
        → eqb (sum_own (blocks_counted body)) body.total ≡ c
        → ((a && b) && c) ≡ true → (body.count ≤ 64) × (sum_own (blocks_counted body) ≤ 256)
    go true true true p q r t = (
      leb-true _ _ p,
      omega (arith, leb-true body.total 256 q, eqb-true (sum_own (blocks_counted body)) body.total r),
    )
    go true true false p q r t = absurd (false≢true t)
    go true false c p q r t = absurd (false≢true t)
    go false b c p q r t = absurd (false≢true t)
