-- Numbers put into a list from a place on: the one word for it, for text and records in lent bytes, for a list of
-- entries, for a route's bytes and for a plan's words. Rests on the kit's `sets`.
use Rattle.std.specs.Prelude.{List, [], ◌∷◌, ◌++◌, ◌≡◌, refl, ℕ, zero, suc, ◌+◌, ◌≤◌, ◌<◌, length, take, drop, get_or, set}
use Rattle.std.proofs.Common.{ap, sym, subst, ◌∙◌, zero-add, add-zero, add-one, arith, length-set, length-append, append_assoc, drop-drop, take_at, take-suc, length-take-le, get_or-set_same, get_or-set_other}
use Rattle.std.proofs.lemmas.List.Edits.{sets, sets-eq}
use Rattle.std.proofs.Math.Seq.{length-sets}

-- from place `at` on stand the bytes, `r` is their end, and what stood before them and past them still does
pub record Adds (before : List ℕ) (at : ℕ) (after : List ℕ) (r : ℕ) (bytes : List ℕ) : Type 0 where
  pub end : r ≡ at + length bytes
  pub holds : after ≡ sets before at bytes

-- ---- one part behind another

over : (i n : ℕ) → i + suc n ≡ suc i + n
over i n = omega arith

sets_more : (a b l : List ℕ) (i : ℕ) → sets (sets l i a) (i + length a) b ≡ sets l i (a ++ b)
sets_more [] b l i = ap (λ n. sets l n b) (add-zero i)
sets_more (x ∷ a) b l i =
    ap (λ n. sets (sets (set l i x) (suc i) a) n b) (over i (length a)) ∙ sets_more a b (set l i x) (suc i)

pub then : {o p q a b : List ℕ} {at r s : ℕ} → Adds o at p r a → Adds p r q s b → Adds o at q s (a ++ b)
then {o} {p} {q} {a} {b} {at} x y = record {
  end = omega (arith, x.end, y.end, length-append a b);
  holds = y.holds ∙ (λ i. sets (x.holds i) (x.end i) b) ∙ sets_more a b o at;
}

pub nothing : (o : List ℕ) (at : ℕ) → Adds o at o at []
nothing o at = record { end = omega arith; holds = refl }

pub one : (o : List ℕ) (at x : ℕ) → Adds o at (set o at x) (at + 1) (x ∷ [])
one o at x = record { end = refl; holds = refl }

-- a part of the list written over, as `copy_from_slice` does it
pub written : (o l bytes : List ℕ) (at k : ℕ) → l ≡ bytes → k ≡ length bytes → at + length bytes ≤ length o
    → Adds o at (take at o ++ (l ++ drop k (drop at o))) (at + length bytes) bytes
written o l bytes at k e n h = record {
  end = refl;
  holds =
      (λ i. take at o ++ (e i ++ drop (n i) (drop at o)))
      ∙ ap (λ (r : List ℕ). take at o ++ (bytes ++ r)) (drop-drop (length bytes) at o)
      ∙ (sym (append_assoc (take at o) bytes (drop (at + length bytes) o)) ∙ sym (sets-eq bytes o at h));
}

-- the same bytes, told otherwise
pub told : {o p a b : List ℕ} {at r : ℕ} → a ≡ b → Adds o at p r a → Adds o at p r b
told {o} {p} {at = at} {r = r} e x = subst (Adds o at p r) e x

-- a list copied one by one: the first j, and the next
pub copied : {o p : List ℕ} {v : ℕ} (s : List ℕ) (at j : ℕ) → Adds o at p (at + j) (take j s)
    → j < length s → v ≡ get_or s j 0 → Adds o at (set p (at + j) v) (at + (j + 1)) (take (j + 1) s)
copied {o} {p} {v} s at j x h e = record {
  end = ap (λ (n : ℕ). at + n) (sym (length-take-le (j + 1) s (omega arith)));
  holds = (then x (one p (at + j) v)).holds ∙ ap (sets o at) next;
}
  where
    next : take j s ++ (v ∷ []) ≡ take (j + 1) s
    next = (λ i. take j s ++ (e i ∷ [])) ∙ sym (take-suc s j 0 h) ∙ ap (λ (n : ℕ). take n s) (sym (add-one j))

-- ---- what stands then

pub as_long : {o p a : List ℕ} {at r : ℕ} → Adds o at p r a → length p ≡ length o
as_long {o} {a = a} {at = at} x = ap length x.holds ∙ length-sets o at a

-- up to the end, where there is room
pub up_to_end : {o p a : List ℕ} {at r : ℕ} → Adds o at p r a → r ≤ length o → take r p ≡ take at o ++ a
up_to_end {o} {a = a} {at = at} {r = r} x room =
    ap (take r) (x.holds ∙ sets-eq a o at (omega (arith, x.end)))
    ∙ take_at (take at o ++ a) (drop (at + length a) o) r size
  where
    size : length (take at o ++ a) ≡ r
    size = omega (arith, length-append (take at o) a, length-take-le at o (omega (arith, x.end)), x.end)

-- from the start on, before what stood there
pub from_start : {o p a : List ℕ} {r : ℕ} → Adds o 0 p r a → length a ≤ length o → p ≡ a ++ drop (length a) o
from_start {o} {a = a} x room =
    x.holds ∙ sets-eq a o 0 (omega arith) ∙ ap (λ (n : ℕ). a ++ drop n o) (zero-add (length a))

low : (a l : List ℕ) (i k : ℕ) → k < i → get_or (sets l i a) k 0 ≡ get_or l k 0
low [] l i k h = refl
low (x ∷ a) l i k h = low a (set l i x) (suc i) k (omega arith) ∙ get_or-set_other l i k x 0 (λ e. omega arith)

within : (a l : List ℕ) (i k : ℕ) → k < length a → i + length a ≤ length l
    → get_or (sets l i a) (i + k) 0 ≡ get_or a k 0
within [] l i k h room = elim h [ ]
within (x ∷ a) l i zero h room =
    ap (λ (n : ℕ). get_or (sets (set l i x) (suc i) a) n 0) (add-zero i) ∙ low a (set l i x) (suc i) i (omega arith)
    ∙ get_or-set_same l i x 0 (omega arith)
within (x ∷ a) l i (suc k) h room =
    ap (λ (n : ℕ). get_or (sets (set l i x) (suc i) a) n 0) (over i k)
    ∙ within a (set l i x) (suc i) k (omega arith) (omega (arith, length-set l i x))

-- before them as it was, and of them each
pub below : {o p a : List ℕ} {at r : ℕ} → Adds o at p r a → (k : ℕ) → k < at → get_or p k 0 ≡ get_or o k 0
below {o} {a = a} {at = at} x k h = ap (λ (l : List ℕ). get_or l k 0) x.holds ∙ low a o at k h

pub among : {o p a : List ℕ} {at r : ℕ} → Adds o at p r a → at + length a ≤ length o → (k : ℕ) → k < length a
    → get_or p (at + k) 0 ≡ get_or a k 0
among {o} {a = a} {at = at} x room k h =
    ap (λ (l : List ℕ). get_or l (at + k) 0) x.holds ∙ within a o at k h room
