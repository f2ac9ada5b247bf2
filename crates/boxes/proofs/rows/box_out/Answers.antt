-- `rows::box_out` meets its contract, by the kind. Assumes nothing.
use Rattle.std.proofs.Common.{ap, ◌∙◌}
use Rattle.boxes.specs.Kinds.{kind_number}
use Rattle.boxes.specs.Layout.{out_kind, out-of}
use Rattle.boxes.proofs.rows.box_out.Goals as goal

pub returns : goal.returns
returns c = c.is_output.ensures ∙ ap (λ k. out_kind (kind_number k)) c.kind_at.ensures ∙ out-of _ _
