-- Which sets of open edges a row has, and so how many entries, is told by the tails alone, whatever is preferred and
-- whatever a step costs: row b has one entry for each of b's open sets, in their order (`row_sets`). So the rows of two
-- sides have the same sets entry by entry (`same_sets`, `same_set_at`), kept is the longest row of any side
-- (`kept_rows`), and crowded the highest of its blocks with more than 64 entries (`crowded_rows`). Rests on Row,
-- RowLaws, Best and Answer's order of keys.
use Rattle.std.specs.Prelude.{◌≡◌, Bool, true, not, ◌||◌, ltb, length, get_or}
use Rattle.std.proofs.Math.Path.{refl, sym, ap, ap₂}
use Rattle.std.proofs.Common.{◌∙◌, inl, inr}
use Rattle.std.proofs.Math.Bool.{cond}
use mathlib.Core.List.{List, [], ◌∷◌, map, map-map}
use Rattle.std.proofs.Math.Option.{some}
use Prim.Native.Nat.{ℕ, zero, suc, max}
use Rattle.std.proofs.lemmas.List.{length-map}
use Rattle.std.proofs.Math.ListN.{get_or-map}
use Rattle.laws.specs.Terms.{Mem, only, each}
use Rattle.laws.specs.Orders.{Order}
use Rattle.laws.specs.Lists.{map_in, map_out, only_in}
use Rattle.form.specs.declared.Body.{Body}
use Rattle.form.specs.Conflict.{Pair, conflicts}
use Rattle.theory.specs.Route.{Path, tails, weighed, best, Side}
use Rattle.theory.specs.Row.{Key, key_before, open_edges, keys, of_key, found, row_of, open_sets, open_tails, Entry}
use Rattle.theory.specs.Row.{entry_of, row, no_entry, longest, kept, highest, crowded}
use Rattle.theory.specs.machines.RowLaws.{keys_out}
use Rattle.theory.specs.answers.Answer.{key_order}
use Rattle.theory.specs.answers.Best.{best_some}

-- ---- a row by any keys has the different keys of its list

module _ {K B : Type 0} (lt : K → K → Bool) (oK : Order lt) (prefers : ℕ → ℕ → Bool) (l : List (K × (ℕ × B))) where
  abbrev keys_in : List (K × (ℕ × B)) → List K
  keys_in r = map (λ e. e.0) r

  abbrev has_key : K → K × (ℕ × B) → Bool
  has_key k e = not (lt e.0 k || lt k e.0)

  same_key : (k : K) (e : K × (ℕ × B)) → k ≡ e.0 → has_key k e ≡ true
  same_key k e same = rw (same, oK.irr e.0)

  -- a key of the list has an entry, so one is found for it
  key_found : (k : K) → Mem k (keys_in l) → (v : ℕ × B) × (best prefers (of_key lt k l) ≡ some v)
  key_found k m =
      let (e, n, same) = map_out (λ e. e.0) l k m in
      best_some prefers (of_key lt k l) e.1
      (map_in (λ e. e.1) (only (has_key k) l) e (only_in (has_key k) l e (same_key k e same) n))

  each_found : (ks : List K) → ((k : K) → Mem k ks → Mem k (keys_in l))
      → keys_in (each ks (λ k. found k (best prefers (of_key lt k l)))) ≡ ks
  each_found [] h = refl
  each_found (k ∷ ks) h =
      let (v, e) = key_found k (h k (inl refl)) in
      rw e (ap (λ t. k ∷ t) (each_found ks (λ j m. h j (inr m))))

  pub row_keys : keys_in (row_of lt prefers l) ≡ keys lt (keys_in l)
  unfolding row_of
  row_keys = each_found (keys lt (keys_in l)) (keys_out lt oK (keys_in l))

-- ---- the rows of a body

-- the sets of open edges of an entry
abbrev pub sets_of : Entry → Key
sets_of e = (e.jumps, e.falls)

module _ (body : Body) (list : List Pair) (cost : ℕ → ℕ → ℕ) (prefers : ℕ → ℕ → Bool) (b : ℕ) where
  pub keys_sets : map (λ e. e.0) (row_of key_before prefers (open_tails body list cost b)) ≡ open_sets body list b
  unfolding open_tails open_sets
  keys_sets =
      row_keys key_before key_order prefers (open_tails body list cost b)
      ∙ ap (keys key_before) (map-map (λ (e : Key × (ℕ × Path)). e.0)
      (λ p. (open_edges body list b p, weighed body cost p)) (tails body b))

  -- row b has one entry for each different set of open edges of b's tails, in their order
  pub row_sets : map sets_of (row body list cost prefers b) ≡ open_sets body list b
  unfolding row
  row_sets = map-map sets_of (entry_of body) (row_of key_before prefers (open_tails body list cost b)) ∙ keys_sets

  pub row_count : length (row body list cost prefers b) ≡ length (open_sets body list b)
  row_count = sym (length-map (row body list cost prefers b) sets_of) ∙ ap length row_sets

-- ---- two sides

module _ (body : Body) (list : List Pair) (one two : Side) (b : ℕ) where
  pub same_sets : map sets_of (row body list one.cost one.prefers b)
      ≡ map sets_of (row body list two.cost two.prefers b)
  same_sets = row_sets body list one.cost one.prefers b ∙ sym (row_sets body list two.cost two.prefers b)

  pub same_set_at : (i : ℕ) → sets_of (get_or (row body list one.cost one.prefers b) i no_entry)
      ≡ sets_of (get_or (row body list two.cost two.prefers b) i no_entry)
  same_set_at i =
      sym (get_or-map sets_of (row body list one.cost one.prefers b) i no_entry)
      ∙ ap (λ l. get_or l i (0, 0)) same_sets
      ∙ get_or-map sets_of (row body list two.cost two.prefers b) i no_entry

-- ---- kept and crowded, of the rows of any side

module _ {A B : Type 0} (f : ℕ → List A) (g : ℕ → List B) (alike : (b : ℕ) → length (f b) ≡ length (g b)) where
  longest_alike : (n : ℕ) → longest f n ≡ longest g n
  unfolding longest
  longest_alike zero = refl
  longest_alike (suc n) = ap₂ max (alike n) (longest_alike n)

  highest_alike : (n : ℕ) → highest f n ≡ highest g n
  unfolding highest
  highest_alike zero = refl
  highest_alike (suc n) = ap₂ (λ m o. cond (ltb 64 m) (some n) o) (alike n) (highest_alike n)

module _ (body : Body) (side : Side) where
  abbrev rows : ℕ → List Entry
  rows = row body (conflicts body) side.cost side.prefers

  pub kept_rows : kept body ≡ longest rows body.count
  unfolding kept
  kept_rows = sym (longest_alike rows (open_sets body (conflicts body))
      (row_count body (conflicts body) side.cost side.prefers) body.count)

  pub crowded_rows : crowded body ≡ highest rows body.count
  unfolding crowded
  crowded_rows = sym (highest_alike rows (open_sets body (conflicts body))
      (row_count body (conflicts body) side.cost side.prefers) body.count)
