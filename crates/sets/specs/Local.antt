-- What a body's blocks say by themselves, as rows of words: word b of a row is a set of blocks k, bit k for block k.
-- Trusted: definitions only. Rests on form's Conflict and on the rows of words.Tabled.
use Rattle.std.specs.Prelude.{◌≡◌, Bool, ◌&&◌, List, ℕ, ◌<◌, length, get_or}
use Rattle.words.specs.Tabled.{tabled, rows}
use Rattle.form.specs.declared.Body.{Body}
use Rattle.form.specs.Conflict.{Edge, block, touches, exits, way_to, is_test, opposes, denies}
use Rattle.sets.specs.declared.Edges.{Edges}
use Rattle.sets.specs.declared.Local.{Local}

-- for each block b a set of edges: those by jump, and those by fall
abbrev pub edge_rows : (ℕ → Edge → Bool) → Edges
edge_rows f = record { jump = rows (λ b k. f b (k, 1)); fall = rows (λ b k. f b (k, 2)) }

-- touched: the tests whose variable b has an effect on; denied: the edges that b's
-- last effect on their variable, a constant, conflicts with; jumping, falling: the edges that b's edge by jump, by
-- fall, conflicts with
unfoldable pub local_of : Body → Local
local_of body = record {
  targets = record { jump = tabled 64 (λ b. way_to 1 (exits body b)); fall = tabled 64 (λ b. way_to 2 (exits body b)) };
  touched = rows (λ b k. is_test body k && touches body b (block body k).variable);
  denied = edge_rows (denies body);
  jumping = edge_rows (λ b e. opposes body (b, 1) e);
  falling = edge_rows (λ b e. opposes body (b, 2) e);
  variable = tabled 64 (λ b. (block body b).variable);
}

-- ---- what is asked of words that are to be joined along paths

-- each target is above its block
abbrev pub Above : List ℕ → Type 0
Above targets = (b : ℕ) → b < 64 → b < get_or targets b 64

abbrev pub EdgesSized : Edges → Type 0
EdgesSized e = (length e.jump ≡ 64) × (length e.fall ≡ 64)

-- a word for each block in every row, and ways that lead upward
pub record Worded (l : Local) : Type 0 where
  pub jumps : length l.targets.jump ≡ 64
  pub falls : length l.targets.fall ≡ 64
  pub touched : length l.touched ≡ 64
  pub denied : EdgesSized l.denied
  pub jumping : EdgesSized l.jumping
  pub falling : EdgesSized l.falling
  pub jumps_above : Above l.targets.jump
  pub falls_above : Above l.targets.fall
