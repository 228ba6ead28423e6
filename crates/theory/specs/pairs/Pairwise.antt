-- The two machines of document 01's conflicts, pair by pair: the first instance of Ways. A path is ruled out where it
-- has a conflict, and the open edges of a tail are those that the conflict list pairs with a first below. Rests on
-- Forward and Backward.
use Rattle.std.specs.Prelude.{◌≡◌, false, ◌&&◌, List}
use Rattle.std.proofs.Math.Bool.{and-false}
use Rattle.std.proofs.Common.{arith, le-ltb}
use Rattle.std.proofs.Math.Dec.{ltb}
use Rattle.laws.specs.Tests.{is_false, clash, and_out}
use Rattle.laws.specs.Lists.{any_of_out}
use Rattle.form.specs.declared.Body.{Body}
use Rattle.form.specs.Conflict.{Edge, Pair, Onward, second_of, same, listed}
use Rattle.theory.specs.Route.{Path, conflict}
use Rattle.theory.specs.Row.{Key, bare, open_edges}
use Rattle.theory.specs.pairs.Edges.{no_edges, edges_none}
use Rattle.theory.specs.pairs.Forward.{step_on, forward}
use Rattle.theory.specs.pairs.Backward.{Listing, step_back, backward}
use Rattle.theory.specs.answers.Ways.{Ways}

module _ (body : Body) (list : List Pair) where
  none_listed : (e : Edge) → listed list 0 e ≡ false
  unfolding listed
  none_listed e = is_false _ (λ h.
      let (p, m, k) = any_of_out (λ p. same (second_of p) e && ltb p.first 0) list h in
      clash (and_out (same (second_of p) e) _ k).1 (le-ltb p.first 0 (omega arith)))

  -- no first is in a block below 0
  pub none_open : (p : Path) → open_edges body list 0 p ≡ no_edges
  unfolding open_edges
  none_open p =
      edges_none body.count (λ e. bare body p e && listed list 0 e)
      (λ e. rw (none_listed e) (and-false (bare body p e)))

  abbrev pub pairwise : Onward body → Listing body list → Ways body (conflict body) (open_edges body list)
  pairwise w L = record {
    back = step_back body list;
    backward = backward body w list L;
    closed = none_open;
    State = Key;
    forth = step_on body;
    start = no_edges;
    forward = forward body w;
  }
