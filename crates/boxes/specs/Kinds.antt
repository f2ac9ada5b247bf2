-- The kinds of slots and the numbers that stand for them in words.
use Rattle.std.specs.Prelude.{ℕ, zero, suc}
use Rattle.boxes.specs.declared.kinds.Kind.{Kind}
use Rattle.boxes.specs.declared.kinds.Kind.TheVariants.{LiveInput, LiveOutput, Gone, HiddenInput, HiddenOutput}

abbrev pub kind_number : Kind → ℕ
kind_number LiveInput = 0
kind_number LiveOutput = 1
kind_number Gone = 2
kind_number HiddenInput = 3
kind_number HiddenOutput = 4

abbrev pub kind_of : ℕ → Kind
kind_of zero = LiveInput
kind_of (suc zero) = LiveOutput
kind_of (suc (suc zero)) = Gone
kind_of (suc (suc (suc zero))) = HiddenInput
kind_of (suc (suc (suc (suc q)))) = HiddenOutput
