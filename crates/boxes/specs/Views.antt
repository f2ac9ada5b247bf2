-- The records that a view has, and whether its indexes are right: what its readers' contracts speak of.
use Rattle.std.specs.Prelude.{List}
use Rattle.boxes.specs.Records.{BoxRec}
use Rattle.boxes.specs.Flat.{ids_of, count_of}
use Rattle.boxes.specs.Layout.{boxes_of}
use Rattle.boxes.specs.Index.{BoxesKept}
use Rattle.boxes.specs.declared.views.Boxes.{Boxes}
use Rattle.boxes.specs.declared.lists.Ids.{Ids}
use Rattle.std.specs.Prelude.{ℕ}

abbrev pub boxes_in : Boxes → List BoxRec
boxes_in b = boxes_of b.words.now b.records

abbrev pub KeptIn : Boxes → Type 0
KeptIn b = BoxesKept b.words.now b.records

-- the ids of a list, and how many there are
abbrev pub ids_in : Ids → List ℕ
ids_in l = ids_of l.width l.words.now

abbrev pub count_in : Ids → ℕ
count_in l = count_of l.width l.words.now
