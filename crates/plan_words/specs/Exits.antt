-- The plan's numbers for the exits of a block, which are theory's for its ways: there are three, and no two exits have
-- one number.
use Rattle.std.specs.Prelude.{◌≡◌, cond, ℕ, ◌<◌, eqb}
use Rattle.std.proofs.Math.Path.{refl, sym, ap}
use Rattle.std.proofs.Common.{◌∙◌, arith}
use Rattle.plan_words.specs.declared.Exit.{Exit}
use Rattle.plan_words.specs.declared.Exit.TheVariants.{End, Jump, Fall}

abbrev pub code : Exit → ℕ
code End = 0
code Jump = 1
code Fall = 2

pub code_lt : (exit : Exit) → code exit < 3
code_lt End = omega arith
code_lt Jump = omega arith
code_lt Fall = omega arith

-- the exit that has a number
exit_of : ℕ → Exit
exit_of n = cond (eqb n 0) End (cond (eqb n 1) Jump Fall)

of_code : (exit : Exit) → exit_of (code exit) ≡ exit
unfolding exit_of
of_code End = refl
of_code Jump = refl
of_code Fall = refl

-- The number tells the exit.
pub one_code : (one other : Exit) → code one ≡ code other → one ≡ other
one_code one other e = sym (of_code one) ∙ ap exit_of e ∙ of_code other
