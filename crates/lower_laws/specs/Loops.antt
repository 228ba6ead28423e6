-- The count of a loop: there is at most one, it is at most 4,294,967,295, and a closed form has it or says that there
-- is none. Rests on Steps: a loop is steps up from 0 with a gap to the limit and a room to the range's end, or such a
-- loop in the mirror.
use Rattle.std.specs.Prelude.{◌≡◌, refl, Bool, true, false, cond, ℕ, zero, suc, ◌+◌, ◌*◌, ◌<◌, ◌≤◌, ℤ, pos, negsuc, ◌+ℤ◌, ◌-ℤ◌}
use Rattle.std.proofs.Common.{sym, ap, subst, ◌∙◌, mul_comm, mul-suc, mul-le-mul_left, le-mul_of_pos_right, arith, SFits}
use Rattle.std.specs.Int.{w32}
use Rattle.laws.specs.Whole.{up, dn, not_negative, same_whole, sum_is, diff_is}
use Rattle.laws.specs.Signed.{sfits_up, sfits_dn, sfits_in}
use Rattle.form.specs.Relation.{meets}
use Rattle.form.specs.Counter.{after, IsCount, Count}
use Rattle.lower_laws.specs.Relations.{mirrored, shifted, turned}
use Rattle.lower_laws.specs.Steps.{Found, found_as, not_both, fails_once, none_before, within, First, within_found}

-- ---- a loop has at most one count, wherever the test stands
pub count_once : (least : ℕ) (initial step : ℤ) (relation : ℕ) (limit : ℤ) (k l : ℕ)
    → IsCount least initial step relation limit k → IsCount least initial step relation limit l → k ≡ l
count_once least initial step relation limit k l a b =
    fails_once (λ j. meets relation (after initial step j) limit) least k l a.enough b.enough a.again
    b.again a.ends b.ends

-- ---- the value after j steps, for omega
one_more : (initial step v : ℤ) (j : ℕ) → up v + (dn initial + dn step * j) ≡ dn v + (up initial + up step * j)
    → up (v +ℤ step) + (dn initial + dn step * suc j) ≡ dn (v +ℤ step) + (up initial + up step * suc j)
one_more initial step v j h = omega (arith, sum_is v step, mul-suc (dn step) j, mul-suc (up step) j)

pub after_is : (initial step : ℤ) (j : ℕ)
    → up (after initial step j) + (dn initial + dn step * j) ≡ dn (after initial step j) + (up initial + up step * j)
unfolding after
after_is initial step zero = omega arith
after_is initial step (suc j) = one_more initial step (after initial step j) j (after_is initial step j)

-- ---- the closed form, 0 where there is no count
abbrev pub smallest : ℤ
smallest = negsuc 2147483647

abbrev pub greatest : ℤ
greatest = pos 2147483647

unfoldable pub count_of : (initial step : ℤ) (relation : ℕ) (limit : ℤ) → ℕ
count_of initial (pos zero) relation limit = cond (meets relation initial limit) 0 1
count_of initial (pos (suc n)) relation limit = within (suc n) relation (limit -ℤ initial) (up (greatest -ℤ initial))
count_of initial (negsuc n) relation limit =
    within (suc n) (mirrored relation) (initial -ℤ limit) (up (initial -ℤ smallest))

pub count_up : (initial step : ℤ) (relation : ℕ) (limit : ℤ) → 0 < up step
    → count_of initial step relation limit ≡ within (up step) relation (limit -ℤ initial) (up (greatest -ℤ initial))
unfolding count_of
count_up initial (pos zero) relation limit h = omega arith
count_up initial (pos (suc n)) relation limit h = refl
count_up initial (negsuc n) relation limit h = omega arith

pub count_down : (initial step : ℤ) (relation : ℕ) (limit : ℤ) → 0 < dn step
    → count_of initial step relation limit
    ≡ within (dn step) (mirrored relation) (initial -ℤ limit) (up (initial -ℤ smallest))
unfolding count_of
count_down initial (pos n) relation limit h = omega arith
count_down initial (negsuc n) relation limit h = refl

-- ---- a loop as steps up from 0: their tests are the loop's, and their room is its range
record Rises (initial step : ℤ) (relation : ℕ) (limit : ℤ) (s turn : ℕ) (gap : ℤ) (room : ℕ) : Type 0 where
  some : 0 < s
  tests : (j : ℕ) → meets relation (after initial step j) limit ≡ meets turn (pos (s * j)) gap
  inside : (j : ℕ) → s * j ≤ room → SFits w32 (after initial step j)
  leaves : (j : ℕ) → SFits w32 (after initial step j) → s * j ≤ room
  small : room ≤ 4294967295

module _ (initial step : ℤ) (relation : ℕ) (limit : ℤ) (s turn : ℕ) (gap : ℤ) (room : ℕ)
    (rises : Rises initial step relation limit s turn gap room) where
  to_loop : (k : ℕ) → First s turn gap k × (s * k ≤ room) → Count initial step relation limit k
  to_loop k w = record {
    enough = w.0.once;
    fit = λ j h i. rises.inside j (omega (arith, mul-le-mul_left s i, w.1));
    again = λ j h i. rises.tests j ∙ w.0.again j h i;
    ends = rises.tests k ∙ w.0.ends;
  }

  from_loop : (k : ℕ) → Count initial step relation limit k → First s turn gap k × (s * k ≤ room)
  from_loop k a = (
    record {
      once = a.enough;
      again = λ j h i. sym (rises.tests j) ∙ a.again j h i;
      ends = sym (rises.tests k) ∙ a.ends;
    },
    rises.leaves k (a.fit k a.enough (omega arith)),
  )

  steps_found : Found (Count initial step relation limit) (within s turn gap room)
  steps_found =
      found_as (λ k. First s turn gap k × (s * k ≤ room)) (Count initial step relation limit) to_loop from_loop
      (within s turn gap room)
      (within_found s rises.some gap turn room)

  steps_few : (k : ℕ) → Count initial step relation limit k → k ≤ 4294967295
  steps_few k a = omega (arith, rises.small, le-mul_of_pos_right k rises.some, mul_comm k s, (from_loop k a).1)

module _ (initial : ℤ) (fits : SFits w32 initial) where
  -- the room to the range's ends
  pub some_room_up : dn (greatest -ℤ initial) ≡ 0
  some_room_up = not_negative (greatest -ℤ initial) (omega (arith, diff_is greatest initial, sfits_up initial fits))

  room_up : up (greatest -ℤ initial) + up initial ≡ 2147483647 + dn initial
  room_up = omega (arith, diff_is greatest initial, some_room_up)

  pub some_room_down : dn (initial -ℤ smallest) ≡ 0
  some_room_down = not_negative (initial -ℤ smallest) (omega (arith, diff_is initial smallest, sfits_dn initial fits))

  room_down : up (initial -ℤ smallest) + dn initial ≡ 2147483648 + up initial
  room_down = omega (arith, diff_is initial smallest, some_room_down)

module _ (initial : ℤ) (fits : SFits w32 initial) (relation : ℕ) (limit : ℤ) where
  upward : (n : ℕ) → Rises initial (pos (suc n)) relation limit (suc n) relation (limit -ℤ initial)
      (up (greatest -ℤ initial))
  upward n =
      let v = after initial (pos (suc n)) in
      record {
        some = omega arith;
        tests = λ j. shifted relation (v j) limit (pos (suc n * j)) (limit -ℤ initial)
            (omega (arith, after_is initial (pos (suc n)) j, diff_is limit initial));
        inside = λ j h. sfits_in w32 (v j) (omega (arith, after_is initial (pos (suc n)) j, room_up initial fits))
            (omega (arith, after_is initial (pos (suc n)) j, sfits_dn initial fits));
        leaves = λ j f. omega (arith, after_is initial (pos (suc n)) j, room_up initial fits, sfits_up (v j) f);
        small = omega (arith, room_up initial fits, sfits_dn initial fits);
      }

  downward : (n : ℕ) → Rises initial (negsuc n) relation limit (suc n) (mirrored relation) (initial -ℤ limit)
      (up (initial -ℤ smallest))
  downward n =
      let v = after initial (negsuc n) in
      record {
        some = omega arith;
        tests = λ j. turned relation (v j) limit (pos (suc n * j)) (initial -ℤ limit)
            (omega (arith, after_is initial (negsuc n) j, diff_is initial limit));
        inside = λ j h. sfits_in w32 (v j) (omega (arith, after_is initial (negsuc n) j, sfits_up initial fits))
            (omega (arith, after_is initial (negsuc n) j, room_down initial fits));
        leaves = λ j f. omega (arith, after_is initial (negsuc n) j, room_down initial fits, sfits_dn (v j) f);
        small = omega (arith, room_down initial fits, sfits_up initial fits);
      }

  -- no step: the value stays
  after_still : (j : ℕ) → after initial (pos 0) j ≡ initial
  after_still j = same_whole (after initial (pos 0) j) initial (omega (arith, after_is initial (pos 0) j))

  still_tests : (j : ℕ) → meets relation (after initial (pos 0) j) limit ≡ meets relation initial limit
  still_tests j = ap (λ (z : ℤ). meets relation z limit) (after_still j)

  still_found : Found (Count initial (pos 0) relation limit) (cond (meets relation initial limit) 0 1)
  still_found = go (meets relation initial limit) refl
    where
      go : (t : Bool) → meets relation initial limit ≡ t → Found (Count initial (pos 0) relation limit) (cond t 0 1)
      go true e = λ k a. not_both (still_tests k ∙ e) a.ends
      go false e = record {
        enough = omega arith;
        fit = λ j h i. subst (SFits w32) (sym (after_still j)) fits;
        again = λ j h i. absurd (none_before j h i);
        ends = still_tests 1 ∙ e;
      }

  still_few : (k : ℕ) → Count initial (pos 0) relation limit k → k ≤ 4294967295
  still_few zero a = omega arith
  still_few (suc zero) a = omega arith
  still_few (suc (suc k)) a =
      not_both (sym (still_tests 1) ∙ a.again 1 (omega arith) (omega arith))
      (sym (still_tests (suc (suc k))) ∙ a.ends)

  -- the closed form is the count, or 0 where there is none
  pub count_found : (step : ℤ) → Found (Count initial step relation limit) (count_of initial step relation limit)
  unfolding count_of
  count_found (pos zero) = still_found
  count_found (pos (suc n)) = steps_found _ _ _ _ _ _ _ _ (upward n)
  count_found (negsuc n) = steps_found _ _ _ _ _ _ _ _ (downward n)

  -- the largest count
  pub count_few : (step : ℤ) (k : ℕ) → Count initial step relation limit k → k ≤ 4294967295
  count_few (pos zero) = still_few
  count_few (pos (suc n)) = steps_few _ _ _ _ _ _ _ _ (upward n)
  count_few (negsuc n) = steps_few _ _ _ _ _ _ _ _ (downward n)
