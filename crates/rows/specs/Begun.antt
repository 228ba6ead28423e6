-- A row before its tails come in: empty, but for the last block's, which has its own entry. Rests on entries' Entries
-- and theory's Plan.
use Rattle.std.specs.Prelude.{◌≡◌, refl, cond, List, [], ◌∷◌, ℕ, suc, ◌≤◌, eqb, ltb, length, get_or, set, replicate}
use Rattle.std.proofs.Math.Path.{ap}
use Rattle.std.proofs.Common.{◌∙◌, arith, eq-eqb, ne_eqb, ltb-true, ltb-false}
use Rattle.std.proofs.lemmas.List.{length-replicate, get_or-replicate}
use Rattle.std.proofs.Math.ListN.{get_or-eq_default, length-set}
use Rattle.std.proofs.Math.Seq.{get_or-set_same, get_or-set_other}
use Rattle.laws.specs.Tests.{split}
use Rattle.theory.specs.Row.{Key}
use Rattle.theory.specs.Edges.{no_edges}
use Rattle.theory.specs.SweepWords.{Words}
use Rattle.theory.specs.Plan.{cost_at}
use Rattle.entries.specs.declared.Entry.{Entry}
use Rattle.entries.specs.Structs.{Both, tuple_of, no_entry}
use Rattle.entries.specs.Entries.{entries_from}

-- an empty row
abbrev pub zero_row : List Entry
zero_row = replicate 64 no_entry

-- the last block's own way: its cost, and no block that is left
abbrev pub own_way : List ℕ → (b : ℕ) → Words
own_way plan b = (cost_at plan b 0, (0, 0))

-- the row of the last block begins with its own entry
abbrev pub begun_with : List ℕ → (count b : ℕ) → List (Key × Both)
begun_with plan count b = cond (eqb (suc b) count) ((no_edges, (own_way plan b, own_way plan b)) ∷ []) []

-- the row of 64 entries holds r, and zeros behind it
pub record Holds (r : List (Key × Both)) (row : List Entry) (n : ℕ) : Type 0 where
  pub few : n ≤ 64
  pub size : length row ≡ 64
  pub held : entries_from row 0 n ≡ r
  pub zeros : (k : ℕ) → n ≤ k → get_or row k no_entry ≡ no_entry

pub zero_length : length zero_row ≡ 64
zero_length = length-replicate {A = Entry} 64 no_entry

pub zero_at : (k : ℕ) → get_or zero_row k no_entry ≡ no_entry
zero_at k = split (ltb k 64) (λ h. get_or-replicate 64 k no_entry no_entry (ltb-true k 64 h))
    (λ h. get_or-eq_default zero_row no_entry {n = k} (omega (arith, ltb-false k 64 h, zero_length)))

module _ (plan : List ℕ) (count b : ℕ) where
  abbrev own : Key × Both
  own = (no_edges, (own_way plan b, own_way plan b))

  pub begun_last : suc b ≡ count → (e : Entry) → tuple_of e ≡ own → Holds (begun_with plan count b) (set zero_row 0 e) 1
  unfolding entries_from
  begun_last last e is = record {
    few = omega arith;
    size = length-set zero_row 0 e ∙ zero_length;
    held = rw (eq-eqb (suc b) count last)
        (λ i. (ap tuple_of (get_or-set_same zero_row 0 e no_entry (omega (arith, zero_length))) ∙ is) i ∷ []);
    zeros = λ k h. get_or-set_other zero_row 0 k e no_entry (λ q. omega arith) ∙ zero_at k;
  }

  pub begun_other : (suc b ≡ count → ⊥) → Holds (begun_with plan count b) zero_row 0
  unfolding entries_from
  begun_other not_last =
      record {
        few = omega arith;
        size = zero_length;
        held = rw (ne_eqb (suc b) count not_last) refl;
        zeros = λ k h.
            zero_at k;
      }
