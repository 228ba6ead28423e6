-- Laws of an array that is filled from the front, and of gathering what records hold. Rests on Form.
use Rattle.std.specs.Prelude.{Bool, true, false, ◌≡◌, ltb, length, set}
use mathlib.Core.List.{List, [], ◌∷◌, ◌++◌, append_assoc, append-nil}
use Rattle.std.proofs.Math.Path.{refl, ap}
use Rattle.std.proofs.Common.{sym, ◌∙◌, arith, lt-ltb, le-ltb, ltb-true, ltb-false, length-append}
use Prim.Native.Nat.{ℕ, zero, suc, ◌+◌, ◌≤◌, ◌<◌}
use Rattle.form.specs.Form.{when, fill, gather, records_from}
use Rattle.form.specs.Records.{next, records_step, records_end}

-- x at place i, where the list of n has one
abbrev pub placed : {A : Type 0} → ℕ → List A → ℕ → A → List A
placed n list i x = when (ltb i n) (set list i x) list

pub placed_in : {A : Type 0} {n i : ℕ} (list : List A) (x : A) {longer : List A} → i < n → longer ≡ set list i x
    → longer ≡ placed n list i x
placed_in list x h e = rw (lt-ltb _ _ h) e

pub placed_past : {A : Type 0} {n i : ℕ} (list : List A) (x : A) {longer : List A} → n ≤ i → longer ≡ list
    → longer ≡ placed n list i x
placed_past list x h e = rw (le-ltb _ _ h) e

module _ {A : Type 0} (z : A) where
  set_fill : (n : ℕ) (done : List A) (x : A) → length done < n
      → set (fill z n done) (length done) x ≡ fill z n (done ++ (x ∷ []))
  unfolding fill
  set_fill zero done x h = absurd (omega arith)
  set_fill (suc n) [] x h = refl
  set_fill (suc n) (y ∷ done) x h = ap (λ (l : List A). y ∷ l) (set_fill n done x (omega arith))

  over_fill : (n : ℕ) (done : List A) (x : A) → n ≤ length done → fill z n done ≡ fill z n (done ++ (x ∷ []))
  unfolding fill
  over_fill zero done x h = refl
  over_fill (suc n) [] x h = absurd (omega arith)
  over_fill (suc n) (y ∷ done) x h = ap (λ (l : List A). y ∷ l) (over_fill n done x (omega arith))

  pub placed_fill : (n : ℕ) (done : List A) (x : A)
      → placed n (fill z n done) (length done) x ≡ fill z n (done ++ (x ∷ []))
  placed_fill n done x = go (ltb (length done) n) refl
    where
      go : (t : Bool) → ltb (length done) n ≡ t
          → when t (set (fill z n done) (length done) x) (fill z n done) ≡ fill z n (done ++ (x ∷ []))
      go true e = set_fill n done x (ltb-true _ _ e)
      go false e = over_fill n done x (ltb-false _ _ e)

gather_none :
    {A : Type 0} (test : ℕ → Bool) (make : ℕ → List ℕ → A) (s : List ℕ) (at : ℕ) → length s ≤ at
    → gather test make (records_from s at) ≡ []
unfolding gather
gather_none test make s at h = rw (records_end s at h)

-- Gathering goes on at the next record: what is done so far, and the rest.
module _ {A : Type 0} (test : ℕ → Bool) (make : ℕ → List ℕ → A) (s : List ℕ) (at : ℕ) (h : at < length s)
    (all done : List A) where
  pub gather_take :
      test at ≡ true → all ≡ done ++ gather test make (records_from s at)
      → all ≡ (done ++ (make at (records_from s (next s at)) ∷ [])) ++ gather test make (records_from s (next s at))
  unfolding gather
  gather_take t e = e ∙ rw (records_step s at h, t) (sym (append_assoc done _ _))

  pub gather_skip :
      test at ≡ false → all ≡ done ++ gather test make (records_from s at)
      → all ≡ done ++ gather test make (records_from s (next s at))
  unfolding gather
  gather_skip t e = e ∙ rw (records_step s at h, t)

-- Where a loop that gathers stands: what is done, which fills the list of n from the front, and what is left of all.
pub record Gathering {A : Type 0} (z : A) (n : ℕ) (all left list : List A) (count : ℕ) : Type 0 where
  pub done : List A
  pub whole : all ≡ done ++ left
  pub counted : count ≡ length done
  pub filled : list ≡ fill z n done

module _ {A : Type 0} (z : A) (n : ℕ) (all : List A) where
  pub gathering_start : (list : List A) → list ≡ fill z n [] → Gathering z n all all list 0
  gathering_start list e = record { done = []; whole = refl; counted = refl; filled = e }

  pub gathering_end :
      (test : ℕ → Bool) (make : ℕ → List ℕ → A) (s : List ℕ) (at : ℕ) → length s ≤ at → (list : List A) (count : ℕ)
      → Gathering z n all (gather test make (records_from s at)) list count
      → (count ≡ length all) × (list ≡ fill z n all)
  gathering_end test make s at h list count g =
      let same = g.whole ∙ (ap (λ (l : List A). g.done ++ l) (gather_none test make s at h) ∙ append-nil g.done) in
      (g.counted ∙ ap length (sym same), g.filled ∙ ap (fill z n) (sym same))

  -- one more, or none, at the record at `at`
  module _ (test : ℕ → Bool) (make : ℕ → List ℕ → A) (s : List ℕ) (at : ℕ) (h : at < length s) (list : List A)
      (count : ℕ)
      (g : Gathering z n all (gather test make (records_from s at)) list count) where
    pub gathering_take :
        (x : A) (longer : List A) → test at ≡ true → x ≡ make at (records_from s (next s at))
        → longer ≡ placed n list count x
        → Gathering z n all (gather test make (records_from s (next s at))) longer (count + 1)
    gathering_take x longer t e p =
        record {
          done = g.done ++ (x ∷ []);
          whole = rw e (gather_take test make s at h all g.done t g.whole);
          counted = longer_by_one;
          filled = p ∙ rw (g.filled, g.counted) (placed_fill z n g.done x);
        }
      where
        longer_by_one : count + 1 ≡ length (g.done ++ (x ∷ []))
        longer_by_one = simp length-append (omega (arith, g.counted))

    pub gathering_skip : test at ≡ false → Gathering z n all (gather test make (records_from s (next s at))) list count
    gathering_skip t =
        record {
          done = g.done;
          whole = gather_skip test make s at h all g.done t g.whole;
          counted = g.counted;
          filled = g.filled;
        }
