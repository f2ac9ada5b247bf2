-- `rows::is_entry` meets its contract: an entry is told by its box and its kind. Assumes nothing.
use Rattle.std.proofs.Common.{rules, sym, ap, ◌∙◌, ◌≡◌, true, false, eqb}
use Rattle.words.specs.Ids.{id_of}
use Rattle.boxes.specs.Kinds.{kind_number, kind_of}
use Rattle.boxes.specs.Layout.{box_at, kind_at, entry-of}
use Rattle.boxes.proofs.rows.is_entry.Goals as goal

pub returns-then-eq : goal.returns-then-eq
returns-then-eq c =
    let a = c.args in
    let box : eqb (box_at a.s.now a.i).box (id_of a.key) ≡ true = sym (c.eq.ensures ∙ ap (λ x. eqb x (id_of a.key)) c.box_key.ensures) ∙ c.if-eq.true in
    let same : c.eq-then-eq.result ≡ eqb (kind_number c.kind_at.result) (kind_number c.live.result) = search rules in
    same
    ∙ ap (λ k. eqb (kind_number k) (kind_number c.live.result)) c.kind_at.ensures
    ∙ ap (λ n. eqb (kind_number (kind_of (kind_at a.s.now a.i))) n) c.live.ensures
    ∙ sym (entry-of a.s.now a.i (id_of a.key) a.out ∙ rw box)

pub returns-else-eq : goal.returns-else-eq
returns-else-eq c =
    let a = c.args in
    let box : eqb (box_at a.s.now a.i).box (id_of a.key) ≡ false = sym (c.eq.ensures ∙ ap (λ x. eqb x (id_of a.key)) c.box_key.ensures) ∙ c.if-eq.false in
    c.if-eq.false ∙ sym (entry-of a.s.now a.i (id_of a.key) a.out ∙ rw box)
