-- `rows::is_gone` meets its contract, by the kind. Assumes nothing.
use Rattle.std.proofs.Common.{rules, ◌≡◌, ap, ◌∙◌, eqb}
use Rattle.boxes.specs.Kinds.{kind_number}
use Rattle.boxes.specs.Layout.{gone-of}
use Rattle.boxes.proofs.rows.is_gone.Goals as goal

pub returns : goal.returns
returns c =
    let same : c.eq.result ≡ eqb (kind_number c.kind_at.result) 2 = search rules in
    same ∙ ap (λ k. eqb (kind_number k) 2) c.kind_at.ensures ∙ gone-of _ _
