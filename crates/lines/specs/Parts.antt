-- The lines as the functions leave them in the lent bytes, and the body that is read. Rests on Lines, lent's Filled,
-- listing's and walk's Answer and roundtrip's Sound.
use Rattle.std.specs.Prelude.{Result, Ok, Err, MatchResult, Bool, true, false, List, ◌++◌, ◌≡◌, refl, ℕ, ◌+◌, ◌*◌, ◌≤◌, ltb, length}
use Rattle.std.proofs.Common.{ap, sym, subst, ◌∙◌, arith}
use Rattle.form.specs.declared.Body.{Body}
use Rattle.form.specs.declared.Refusal.{Refusal}
use Rattle.form.specs.Said.{Reading, Verdict, Accepted}
use Rattle.form.specs.Form.{when, judge, body_of}
use Rattle.form.specs.Answer.{reading, reading_of}
use Rattle.form.specs.Conflict.{conflicts, conflict_bytes}
use Rattle.listing.specs.Answer.{Bytes, Refused as Unlisted, listed_of, listed_in, listing, as_judged}
use Rattle.list_bytes.specs.Listing.{bytes_length}
use Rattle.roundtrip.specs.Sound.{sound}
use Rattle.plan.specs.declared.Totals.{Totals}
use Rattle.walk.specs.declared.Walked.{Walked}
use Rattle.walk.specs.Answer.{WalkOwed, said}
use Rattle.lent.specs.declared.Filled.{Filled}
use Rattle.lent.specs.Filled.{Grows}
use Rattle.text.specs.Text.{line, route_line}
use Rattle.lines.specs.Lines.{blocks_word, iterations_word, conflicts_word, weight_word, bound_word, route_word}
use Rattle.lines.specs.Lines.{least_word, least_route_word, kept_word, walked_line, no_routes, budget}

-- the walk's line, from an answer that the walk owes
pub record WalkedAdds (form : List ℕ) (before after : Filled) : Type 0 where
  pub walk : Result Walked Refusal
  pub held : List ℕ
  pub owed : WalkOwed form budget no_routes (said walk, held)
  pub grows : Grows before after (walked_line walk)
  pub few : after.end ≤ before.end + 28

-- the first five lines
abbrev pub first_five : Body → (blocks : ℕ) → Totals → List ℕ
first_five body blocks totals =
    line blocks_word blocks
    ++ (line iterations_word totals.iterations ++ (line conflicts_word (length (conflicts body))
    ++ (line weight_word totals.weight ++ line bound_word totals.bound)))

-- the last five
abbrev pub last_five : (route : List ℕ) (least : ℕ) (lightest : List ℕ) (kept : ℕ) → Result Walked Refusal → List ℕ
last_five route least lightest kept walk =
    route_line route_word route
    ++ (line least_word least ++ (route_line least_route_word lightest ++ (line kept_word kept ++ walked_line walk)))

-- put in lent bytes, from an answer that the walk owes
pub record LastAdds (form : List ℕ) (before after : Filled) (route : List ℕ) (least : ℕ) (lightest : List ℕ)
    (kept : ℕ) : Type 0 where
  pub walk : Result Walked Refusal
  pub held : List ℕ
  pub owed : WalkOwed form budget no_routes (said walk, held)
  pub grows : Grows before after (last_five route least lightest kept walk)
  pub few : after.end ≤ before.end + 3000

-- the list of an accepted form, whether there was room for it or not, tells its bytes, five an entry
by_room : (short : Bool) (l bytes : ℕ) (r : Result ℕ Refusal) → listed_of r ≡ when short (Unlisted 42 l) (Bytes l)
    → MatchResult r (λ n. bytes ≡ n) (λ e. bytes ≡ e.place) → bytes ≡ l
by_room true l bytes (Ok n) e m = cc
by_room true l bytes (Err refusal) e m = cc
by_room false l bytes (Ok n) e m = cc
by_room false l bytes (Err refusal) e m = cc

pub all_bytes : (form : List ℕ) (room bytes : ℕ) (r : Result ℕ Refusal) → judge form ≡ Accepted
    → listed_of r ≡ listing form room → MatchResult r (λ n. bytes ≡ n) (λ e. bytes ≡ e.place)
    → bytes ≡ 5 * length (conflicts (body_of form))
all_bytes form room bytes r a e m =
    let l = length (conflict_bytes (body_of form)) in
    by_room (ltb room l) l bytes r (e ∙ ap (λ (v : Verdict). as_judged v (listed_in (body_of form) room)) a) m
    ∙ bytes_length (body_of form)

-- the body that is read: its blocks, and none where the form is refused
pub read_blocks : (form : List ℕ) (n : ℕ) (r : Result Body Refusal) → reading_of r ≡ reading form
    → MatchResult r (λ body. n ≡ body.count) (λ _. n ≡ 0)
    → (judge form ≡ Accepted → n ≡ (body_of form).count) × (n ≤ 64)
read_blocks form n (Ok body) e m =
    let a : judge form ≡ Accepted = sym (ap (λ (x : Reading). x.verdict) e) in
    let read : body.count ≡ (body_of form).count = ap (λ (x : Reading). x.body.count) e ∙ rw a refl in
    let few = (sound form a).few in
    (λ b. m ∙ read, omega (arith, m, read))
read_blocks form n (Err refusal) e m =
    let refused = ap (λ (x : Reading). x.verdict) e in
    (λ b. cc, omega (arith, m))

-- the walk's line, of an answer told by its case
pub walked_shown : (form held : List ℕ) (before after : Filled) (answer shown : Result Walked Refusal)
    → WalkOwed form budget no_routes (said answer, held) → answer ≡ shown → Grows before after (walked_line shown)
    → after.end ≤ before.end + 28 → WalkedAdds form before after
walked_shown form held before after answer shown owed e grows few = record {
  walk = answer;
  held = held;
  owed = owed;
  grows = subst (λ (x : Result Walked Refusal). Grows before after (walked_line x)) (sym e) grows;
  few = few;
}
