-- `list_bytes::ones` meets its contract: 64 words of 64 bits at most, and the chain's sum is the row's.
use Rattle.std.proofs.Common.{◌≡◌, refl, ap, ◌∙◌, List, [], ◌∷◌, ℕ, ◌+◌, ◌^◌, length, get_or, rules, arith}
use Rattle.std.proofs.lemmas.Iterator.{YieldsList-from_slice}
use Rattle.std.proofs.lemmas.Iterator.Adapters.{fits_from_length, at_most_from_yields_List}
use Rattle.std.proofs.lemmas.List.Sums.{sum_by-cons, sum_by-le}
use Rattle.std.specs.Int.Count.{ones}
use Rattle.std.specs.List.{sum_by}
use Rattle.laws.specs.Sums.{sum}
use Rattle.list_bytes.proofs.ones.Goals as goal

pub sum-requires-clause-fits : goal.sum-requires-clause-fits
sum-requires-clause-fits c =
    fits_from_length _ _ 64 (2 ^ 64) (at_most_from_yields_List (YieldsList-from_slice c.args.row.now cc) (search rules))
    c.map.ensures.closure (omega arith) (λ x r q k. search rules)

-- the sum over a list, by place
by_place : (f : ℕ → ℕ) (l : List ℕ) → sum_by f l ≡ sum (length l) (λ s. f (get_or l s 0))
unfolding sum
by_place f [] = refl
by_place f (x ∷ l) = sum_by-cons f x l ∙ ap (λ n. f x + n) (by_place f l)

pub returns : goal.returns
returns c =
    let row = c.args.row.now in
    let all : c.sum.result ≡ sum_by ones row = search rules in
    let long : length row ≡ 64 = search rules in
    (all ∙ rw long at (by_place ones row), omega (arith, all, sum_by-le ones 64 row (search rules), long))
