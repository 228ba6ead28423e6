-- The route's line, block by block: what is added so far, with the blocks to come, is all of it. Rests on Text and on
-- Filled of lent.
use Rattle.std.specs.Prelude.{List, [], ◌++◌, ◌≡◌, refl, ℕ, suc, ◌+◌, ◌<◌, length, drop, get_or}
use Rattle.std.proofs.Common.{append_assoc, append-nil, ap, sym, ◌∙◌, add-one, drop-cons}
use Rattle.std.proofs.Math.Seq.{drop-length}
use Rattle.text.specs.Text.{step, steps_from}
use Rattle.lent.specs.declared.Filled.{Filled}
use Rattle.lent.specs.Filled.{Grows, then, nothing}

pub record Stepped (before after : Filled) (ways : List ℕ) (block : ℕ) : Type 0 where
  pub done : List ℕ
  pub grows : Grows before after done
  pub rest : done ++ steps_from block (drop block ways) ≡ steps_from 0 ways

pub begun : (o : Filled) (ways : List ℕ) → Stepped o o ways 0
begun o ways = record { done = []; grows = nothing o; rest = refl }

more : (ways : List ℕ) (block : ℕ) → block < length ways
    → steps_from block (drop block ways)
    ≡ step block (get_or ways block 0) ++ steps_from (suc block) (drop (suc block) ways)
unfolding steps_from
more ways block h = rw (drop-cons ways block 0 h)

pub turned : {o p q : Filled} {ways : List ℕ} {block : ℕ} → Stepped o p ways block → block < length ways
    → Grows p q (step block (get_or ways block 0))
    → Stepped o q ways (block + 1)
turned {o} {p} {q} {ways} {block} x h y = rw (add-one block) (record {
  done = x.done ++ step block (get_or ways block 0);
  grows = then x.grows y;
  rest =
      append_assoc x.done (step block (get_or ways block 0)) (steps_from (suc block) (drop (suc block) ways))
      ∙ (ap (λ (l : List ℕ). x.done ++ l) (sym (more ways block h)) ∙ x.rest);
})

none_left : (ways : List ℕ) (block : ℕ) → block ≡ length ways → steps_from block (drop block ways) ≡ []
unfolding steps_from
none_left ways block h = rw (h, drop-length ways)

pub ended : {o p : Filled} {ways : List ℕ} {block : ℕ} → Stepped o p ways block → block ≡ length ways
    → Grows o p (steps_from 0 ways)
ended {o} {p} {ways} {block} x h =
    let all : x.done ≡ steps_from 0 ways =
    sym (append-nil x.done) ∙ (ap (λ (l : List ℕ). x.done ++ l) (sym (none_left ways block h)) ∙ x.rest) in
    rw all at x.grows
