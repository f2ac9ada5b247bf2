-- `read::worded` meets its contract: the first word decides.
use Rattle.std.proofs.Common.{refl, sym, ◌∙◌}
use Rattle.lines.specs.FormLaws as L
use Rattle.lines.proofs.read.worded.Goals as goal

pub returns-then-same_word : goal.returns-then-same_word
returns-then-same_word c = L.worded-tx _ _ c.args.first.now _ c.args.second.now _ _ (sym c.same_word.ensures ∙ c.if-same_word.true) c.tx.ensures

pub returns-then-same_word-2 : goal.returns-then-same_word-2
returns-then-same_word-2 c = L.worded-return _ _ c.args.first.now _ c.args.second.now _ _ (sym c.same_word.ensures ∙ c.if-same_word.false) (sym c.same_word-2.ensures ∙ c.if-same_word-2.true) c.take_back.ensures

pub returns-then-same_word-3 : goal.returns-then-same_word-3
returns-then-same_word-3 c = L.worded-block _ _ c.args.first.now _ c.args.second.now _ _ (sym c.same_word.ensures ∙ c.if-same_word.false) (sym c.same_word-2.ensures ∙ c.if-same_word-2.false) (sym c.same_word-3.ensures ∙ c.if-same_word-3.true) c.block.ensures

pub returns-then-same_word-4 : goal.returns-then-same_word-4
returns-then-same_word-4 c = L.worded-answer _ _ c.args.first.now _ c.args.second.now _ _ (sym c.same_word.ensures ∙ c.if-same_word.false) (sym c.same_word-2.ensures ∙ c.if-same_word-2.false) (sym c.same_word-3.ensures ∙ c.if-same_word-3.false) refl (sym c.same_word-4.ensures ∙ c.if-same_word-4.true) c.answer.ensures

pub returns-then-same_word-5 : goal.returns-then-same_word-5
returns-then-same_word-5 c = L.worded-rebroadcast _ _ c.args.first.now _ c.args.second.now _ _ (sym c.same_word.ensures ∙ c.if-same_word.false) (sym c.same_word-2.ensures ∙ c.if-same_word-2.false) (sym c.same_word-3.ensures ∙ c.if-same_word-3.false) refl (sym c.same_word-4.ensures ∙ c.if-same_word-4.false) (sym c.same_word-5.ensures ∙ c.if-same_word-5.true) c.rebroadcast.ensures

pub returns : goal.returns
returns c = L.worded-change _ _ c.args.first.now _ c.args.second.now _ _ (sym c.same_word.ensures ∙ c.if-same_word.false) (sym c.same_word-2.ensures ∙ c.if-same_word-2.false) (sym c.same_word-3.ensures ∙ c.if-same_word-3.false) refl (sym c.same_word-4.ensures ∙ c.if-same_word-4.false) (sym c.same_word-5.ensures ∙ c.if-same_word-5.false) refl c.change.ensures
