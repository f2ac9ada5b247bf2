-- `Ids::among` meets its contract: the chain goes through the records (`among-range`). Assumes nothing.
use Rattle.std.proofs.Common.{rules, sym, refl, ◌∙◌, ◌-◌, ◌*◌}
use Rattle.std.specs.Prelude.{eqb}
use Rattle.std.proofs.lemmas.Iterator.{YieldsList-from_range}
use Rattle.std.proofs.lemmas.Iterator.Search.{any_from_yields_List}
use Rattle.words.specs.Ids.{id_of, id_at}
use Rattle.boxes.specs.Flat.{among-range}
use Rattle.boxes.proofs.lists.Ids.among.Goals as goal

pub returns : goal.returns
returns c =
    let a = c.args in
    let ids = a.self.now in
    any_from_yields_List (λ i. eqb (id_at ids.words.now (i * ids.width)) (id_of a.key)) _ _ _ c.any.ensures.ran (YieldsList-from_range a.from a.to _ refl refl) (λ x b q k. search rules)
    ∙ sym (among-range ids.width ids.words.now (id_of a.key) (a.to - a.from) a.from a.to refl)
