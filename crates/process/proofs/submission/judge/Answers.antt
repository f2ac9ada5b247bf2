-- `judge` meets its contract: one law for each verdict. Assumes nothing.
use Rattle.std.proofs.Common.{rules, refl}
use Rattle.process.specs.Post.{judged-valid}
use Rattle.process.specs.Claims.{claims-as, claims-left, claims-absent, claims-invalid}
use Rattle.process.proofs.submission.judge.Goals as goal

pub returns-in-Absent : goal.returns-in-Absent
returns-in-Absent c = λ ys f q. claims-absent _ _ _ _ _ _ _ _ _ _ _ c.in-Absent.is c.uncharged.ensures

pub returns-in-Invalid : goal.returns-in-Invalid
returns-in-Invalid c =
    let known = c.new-known.ensures.words in
    let held = rw (known.0, known.1) at c.insert.ensures.inserted in
    λ ys f q. claims-left (claims-invalid _ _ _ _ _ _ _ _ _ _ _ _ _ c.in-Invalid.is held (rw c.len.ensures at c.uncharged-in-Invalid.ensures)) refl refl (search rules)

pub returns-in-Valid : goal.returns-in-Valid
returns-in-Valid c = λ ys f q. claims-left (claims-as (judged-valid _ _ _ _ _ _ _ _ c.in-Valid.is) (c.valid.ensures.claims _ ys f q)) (search rules) (search rules) refl
