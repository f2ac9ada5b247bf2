-- `buckets::bucket_of` meets its contract: half a word times a factor of half a word fits a word. Assumes nothing.
use Rattle.words.specs.Buckets.{bucket_of}
use Rattle.words.proofs.buckets.bucket_of.Goals as goal

pub returns : goal.returns
unfolding bucket_of
returns c = c.place_in.ensures
