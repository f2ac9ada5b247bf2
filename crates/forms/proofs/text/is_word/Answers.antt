-- `text::is_word` meets its contract: its three ranges are those of `is_word`.
use Rattle.std.proofs.Common.{arith}
use Rattle.forms.specs.TextLaws as W
use Rattle.forms.proofs.text.is_word.Goals as goal

pub returns-in-48-to-57 : goal.returns-in-48-to-57
returns-in-48-to-57 c = W.word-digit _ (omega (arith, c.in-48-to-57)) (omega (arith, c.in-48-to-57))

pub returns-in-48-to-57-2 : goal.returns-in-48-to-57-2
returns-in-48-to-57-2 c = W.word-high _ (omega (arith, c.in-48-to-57)) (omega (arith, c.in-48-to-57))

pub returns-in-48-to-57-3 : goal.returns-in-48-to-57-3
returns-in-48-to-57-3 c = W.word-low _ (omega (arith, c.in-48-to-57)) (omega (arith, c.in-48-to-57))

pub returns-in_default : goal.returns-in_default
returns-in_default c = W.no-word _ (λ x y. omega (arith, c.in_default)) (λ x y. omega (arith, c.in_default)) (λ x y. omega (arith, c.in_default))

pub returns-in_default-2 : goal.returns-in_default-2
returns-in_default-2 c = W.no-word _ (λ x y. omega (arith, c.in_default)) (λ x y. omega (arith, c.in_default)) (λ x y. omega (arith, c.in_default))

pub returns-in_default-3 : goal.returns-in_default-3
returns-in_default-3 c = W.no-word _ (λ x y. omega (arith, c.in_default)) (λ x y. omega (arith, c.in_default)) (λ x y. omega (arith, c.in_default))

pub returns-in_default-4 : goal.returns-in_default-4
returns-in_default-4 c = W.no-word _ (λ x y. omega (arith, c.in_default)) (λ x y. omega (arith, c.in_default)) (λ x y. omega (arith, c.in_default))
