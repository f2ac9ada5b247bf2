-- `text::next` meets its contract: behind the spaces stands a closing bracket, or, where a member may begin, an opening one or a word; else no members
-- are spelled.
use Rattle.std.proofs.Common.{arith, sym, ◌∙◌, subst, Option}
use Rattle.forms.specs.Text as T
use Rattle.forms.specs.declared.text.Member.{Member}
use Rattle.forms.specs.TextLaws as W
use Rattle.forms.proofs.text.next.Goals as goal

pub returns-in_err-first : goal.returns-in_err-first
unfolding T.Next
returns-in_err-first c = subst (λ (o : Option Member). T.Next c.args.rest.now c.args.gap o) (sym c.from_residual.ensures) (W.bad-end _ _ c.args.gap c.past_spaces-here.ensures c.in_err-first.ensures.cases)

pub returns-then-first-eq41 : goal.returns-then-first-eq41
unfolding T.Next
returns-then-first-eq41 c = W.is-close _ _ c.args.gap c.past_spaces-here.ensures _ _ c.in_ok-first.ensures.cases.0 c.if-first-eq41.true

pub returns-then-not-parted : goal.returns-then-not-parted
unfolding T.Next
returns-then-not-parted c = W.bad-gap _ _ c.args.gap c.past_spaces-here.ensures _ _ c.in_ok-first.ensures.cases.0 c.if-first-eq41.false (c.parted.ensures.not c.if-not-parted.true)

pub returns-then-first-eq40 : goal.returns-then-first-eq40
unfolding T.Next
returns-then-first-eq40 c = W.is_open_next _ _ c.args.gap c.past_spaces-here.ensures _ _ c.in_ok-first.ensures.cases.0 (c.parted.ensures.yes c.if-not-parted.false) c.if-first-eq40.true

pub split_at-requires : goal.split_at-requires
split_at-requires c = omega (arith, c.word_len.ensures, W.run-le T.is_word c.past_spaces-here.result.now)

pub returns-then-is_word : goal.returns-then-is_word
unfolding T.Next
returns-then-is_word c =
    W.is_word_next _ _ c.args.gap c.past_spaces-here.ensures _ _ c.in_ok-first.ensures.cases.0 _ _ (c.parted.ensures.yes c.if-not-parted.false) (sym c.is_word.ensures ∙ c.if-is_word.true)
    (c.split_at.ensures.front ∙ rw c.word_len.ensures) (c.split_at.ensures.back ∙ rw c.word_len.ensures)

pub returns : goal.returns
unfolding T.Next
returns c = W.bad-byte _ _ c.args.gap c.past_spaces-here.ensures _ _ c.in_ok-first.ensures.cases.0 c.if-first-eq41.false c.if-first-eq40.false (sym c.is_word.ensures ∙ c.if-is_word.false)
