-- Choices, keys, ways and entries as the code has them, an enum and structs, and as the theory has them: a bit, a pair,
-- words, and a key with the words of a way of each choice.
use Rattle.laws.specs.Terms as terms
use Rattle.theory.specs.Row.{Key}
use Rattle.theory.specs.SweepWords.{Words}
use Rattle.entries.specs.declared.Choice.{Choice}
use Rattle.entries.specs.declared.Choice.TheVariants.{Heaviest, Lightest}
use Rattle.entries.specs.declared.Key as code
use Rattle.entries.specs.declared.Way.{Way}
use Rattle.entries.specs.declared.Entry.{Entry}

abbrev pub choice_of : Choice → terms.Choice
choice_of Heaviest = terms.heaviest
choice_of Lightest = terms.lightest

abbrev pub key_of : code.Key → Key
key_of k = (k.jumps, k.falls)

abbrev pub words_in : Way → Words
words_in w = (w.weight, (w.jumped, w.fallen))

abbrev pub way_of : Words → Way
way_of v = record { weight = v.0; jumped = v.1.0; fallen = v.1.1 }

-- the words of a way of each choice: of the heaviest, of the lightest
abbrev pub Both : Type 0
Both = Words × Words

abbrev pub tuple_of : Entry → Key × Both
tuple_of e = ((e.jumps, e.falls), (words_in e.heaviest, words_in e.lightest))

abbrev pub struct_of : Key × Both → Entry
struct_of e = record {
  jumps = e.0.0;
  falls = e.0.1;
  heaviest = way_of e.1.0;
  lightest = way_of e.1.1;
}

-- a zero entry
abbrev pub no_way : Way
no_way = record { weight = 0; jumped = 0; fallen = 0 }

abbrev pub no_entry : Entry
no_entry = record { jumps = 0; falls = 0; heaviest = no_way; lightest = no_way }
