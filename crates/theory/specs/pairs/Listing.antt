-- The conflict list is what the sweep's machine needs: it lists every edge that a first below contradicts along a clean
-- path, and only edges of tests. Rests on lower_laws' ConflictList and Backward.
use Rattle.std.specs.Prelude.{◌≡◌, refl, true}
use Rattle.std.proofs.Common.{inl, inr, arith}
use Rattle.laws.specs.Tests.{or_out}
use Rattle.form.specs.declared.Body.{Body}
use Rattle.form.specs.Conflict.{Pair, is_test, condition, opposes, Onward, second_of, assignment_pair, edge_pair, conflicts}
use Rattle.form.specs.Conflict.{Holds}
use Rattle.lower_laws.specs.Conditions.{contradict_says}
use Rattle.lower_laws.specs.ConflictList.{conflicts_hold}
use Rattle.lower_laws.specs.Listed.{listed_in_lem, listed_out, denies_test, opposes_out}
use Rattle.theory.specs.pairs.Backward.{Listing}

module _ (body : Body) where
  holds_test : (p : Pair) → Holds body p → is_test body p.second ≡ true
  holds_test p (r, inl (k, v, a)) = denies_test body p.first (second_of p) a.0
  holds_test p (r, inr (k, c)) = c.1

  pub listing : Onward body → Listing body (conflicts body)
  listing w = record {
    wider = λ b c e h k.
        let (p, m, q, l) = listed_out (conflicts body) b e k in
        listed_in_lem (conflicts body) c e p m q (omega arith);
    tests = λ b e k.
        let (p, m, q, l) = listed_out (conflicts body) b e k in
        rw (← q) (holds_test p ((conflicts_hold body w p).0 m));
    live = λ x e u m r a c. or_out (opposes body x e) _ a
        (λ o. let (s, t, k) = opposes_out body x e o in
        listed_in_lem (conflicts body) u e (edge_pair e x.0 (x.1, u))
        ((conflicts_hold body w (edge_pair e x.0 (x.1, u))).1
        (r, inr (refl, (s, t, (contradict_says (condition body x) (condition body e)).0 k, (u, m, c))))) refl
        (w.above x.0 (x.1, u) m))
        (λ d. listed_in_lem (conflicts body) u e (assignment_pair body e x.0)
        ((conflicts_hold body w (assignment_pair body e x.0)).1 (r, inl (refl, refl, (d, inr ((x.1, u), m, c)))))
        refl (w.above x.0 (x.1, u) m));
  }
