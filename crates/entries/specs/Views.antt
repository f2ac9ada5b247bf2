-- The entries that a view has, and whether its order and its index are right: what its readers' contracts speak of.
use Rattle.std.specs.Prelude.{List}
use Rattle.entries.specs.Entries.{Entry}
use Rattle.entries.specs.Layout.{entries_of, EntriesKept}
use Rattle.entries.specs.declared.views.Entries.{Entries}

abbrev pub entries_in : Entries → List Entry
entries_in e = entries_of e.words.now e.pooled

abbrev pub KeptIn : Entries → Type 0
KeptIn e = EntriesKept e.words.now e.pooled
