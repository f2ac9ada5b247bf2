-- `read::pool` meets its contract: field by field, then the end.
use Rattle.std.proofs.Common.{◌∙◌}
use Rattle.lines.specs.declared.read.Form.TheVariants as V
use Rattle.lines.specs.Fields as K
use Rattle.lines.specs.FieldLaws as W
use Rattle.lines.specs.Forms as F
use Rattle.lines.specs.FormLaws as L
use Rattle.lines.proofs.read.pool.Goals as goal

pub returns-in_err-capacity : goal.returns-in_err-capacity
unfolding F.FormAt F.pool_of K.NoField K.IfEnds
returns-in_err-capacity c = λ d t s h.
    L.none-unread _ c.from_residual.ensures ∙ L.unread-gone _ _ (W.then-gone K.number64 _ (W.then-gone K.number64 _ (W.then-gone K.number64 _ (W.then-gone K.number64 _ (W.then-gone K.number64 _ (W.then-gone K.number64 _ (W.then-gone F.strategies _ (W.then-gone K.number64 _ (c.in_err-capacity.ensures d t _ h)))))))))

pub returns-in_err-min_fee : goal.returns-in_err-min_fee
unfolding F.FormAt F.pool_of K.NoField K.IfEnds
returns-in_err-min_fee c = λ d t s h.
    let x0 = c.in_ok-capacity.ensures.is d t _ h in
    L.none-unread _ c.from_residual-in_err-min_fee.ensures ∙ L.unread-gone _ _ (W.then-gone K.number64 _ (W.then-gone K.number64 _ (W.then-gone K.number64 _ (W.then-gone K.number64 _ (W.then-gone K.number64 _ (W.then-gone K.number64 _ (W.then-gone F.strategies _ (c.in_err-min_fee.ensures d t _ x0.1))))))))

pub returns-in_err-strategy : goal.returns-in_err-strategy
unfolding F.FormAt F.pool_of K.NoField K.IfEnds
returns-in_err-strategy c = λ d t s h.
    let x0 = c.in_ok-capacity.ensures.is d t _ h in
    let x1 = c.in_ok-min_fee.ensures.is d t _ x0.1 in
    L.none-unread _ c.from_residual-in_err-strategy.ensures ∙ L.unread-gone _ _ (W.then-gone K.number64 _ (W.then-gone K.number64 _ (W.then-gone K.number64 _ (W.then-gone K.number64 _ (W.then-gone K.number64 _ (W.then-gone K.number64 _ (c.in_err-strategy.ensures d t _ x1.1)))))))

pub returns-in_err-interval : goal.returns-in_err-interval
unfolding F.FormAt F.pool_of K.NoField K.IfEnds
returns-in_err-interval c = λ d t s h.
    let x0 = c.in_ok-capacity.ensures.is d t _ h in
    let x1 = c.in_ok-min_fee.ensures.is d t _ x0.1 in
    let x2 = c.in_ok-strategy.ensures.is d t _ x1.1 in
    L.none-unread _ c.from_residual-in_err-interval.ensures ∙ L.unread-gone _ _ (W.then-gone K.number64 _ (W.then-gone K.number64 _ (W.then-gone K.number64 _ (W.then-gone K.number64 _ (W.then-gone K.number64 _ (c.in_err-interval.ensures d t _ x2.1))))))

pub returns-in_err-rebroadcast : goal.returns-in_err-rebroadcast
unfolding F.FormAt F.pool_of K.NoField K.IfEnds
returns-in_err-rebroadcast c = λ d t s h.
    let x0 = c.in_ok-capacity.ensures.is d t _ h in
    let x1 = c.in_ok-min_fee.ensures.is d t _ x0.1 in
    let x2 = c.in_ok-strategy.ensures.is d t _ x1.1 in
    let x3 = c.in_ok-interval.ensures.is d t _ x2.1 in
    L.none-unread _ c.from_residual-in_err-rebroadcast.ensures ∙ L.unread-gone _ _ (W.then-gone K.number64 _ (W.then-gone K.number64 _ (W.then-gone K.number64 _ (W.then-gone K.number64 _ (c.in_err-rebroadcast.ensures d t _ x3.1)))))

pub returns-in_err-ttl : goal.returns-in_err-ttl
unfolding F.FormAt F.pool_of K.NoField K.IfEnds
returns-in_err-ttl c = λ d t s h.
    let x0 = c.in_ok-capacity.ensures.is d t _ h in
    let x1 = c.in_ok-min_fee.ensures.is d t _ x0.1 in
    let x2 = c.in_ok-strategy.ensures.is d t _ x1.1 in
    let x3 = c.in_ok-interval.ensures.is d t _ x2.1 in
    let x4 = c.in_ok-rebroadcast.ensures.is d t _ x3.1 in
    L.none-unread _ c.from_residual-in_err-ttl.ensures ∙ L.unread-gone _ _ (W.then-gone K.number64 _ (W.then-gone K.number64 _ (W.then-gone K.number64 _ (c.in_err-ttl.ensures d t _ x4.1))))

pub returns-in_err-cache : goal.returns-in_err-cache
unfolding F.FormAt F.pool_of K.NoField K.IfEnds
returns-in_err-cache c = λ d t s h.
    let x0 = c.in_ok-capacity.ensures.is d t _ h in
    let x1 = c.in_ok-min_fee.ensures.is d t _ x0.1 in
    let x2 = c.in_ok-strategy.ensures.is d t _ x1.1 in
    let x3 = c.in_ok-interval.ensures.is d t _ x2.1 in
    let x4 = c.in_ok-rebroadcast.ensures.is d t _ x3.1 in
    let x5 = c.in_ok-ttl.ensures.is d t _ x4.1 in
    L.none-unread _ c.from_residual-in_err-cache.ensures ∙ L.unread-gone _ _ (W.then-gone K.number64 _ (W.then-gone K.number64 _ (c.in_err-cache.ensures d t _ x5.1)))

pub returns-in_err-block_limit : goal.returns-in_err-block_limit
unfolding F.FormAt F.pool_of K.NoField K.IfEnds
returns-in_err-block_limit c = λ d t s h.
    let x0 = c.in_ok-capacity.ensures.is d t _ h in
    let x1 = c.in_ok-min_fee.ensures.is d t _ x0.1 in
    let x2 = c.in_ok-strategy.ensures.is d t _ x1.1 in
    let x3 = c.in_ok-interval.ensures.is d t _ x2.1 in
    let x4 = c.in_ok-rebroadcast.ensures.is d t _ x3.1 in
    let x5 = c.in_ok-ttl.ensures.is d t _ x4.1 in
    let x6 = c.in_ok-cache.ensures.is d t _ x5.1 in
    L.none-unread _ c.from_residual-in_err-block_limit.ensures ∙ L.unread-gone _ _ (W.then-gone K.number64 _ (c.in_err-block_limit.ensures d t _ x6.1))

pub returns-in_err-peer_limit : goal.returns-in_err-peer_limit
unfolding F.FormAt F.pool_of K.NoField K.IfEnds
returns-in_err-peer_limit c = λ d t s h.
    let x0 = c.in_ok-capacity.ensures.is d t _ h in
    let x1 = c.in_ok-min_fee.ensures.is d t _ x0.1 in
    let x2 = c.in_ok-strategy.ensures.is d t _ x1.1 in
    let x3 = c.in_ok-interval.ensures.is d t _ x2.1 in
    let x4 = c.in_ok-rebroadcast.ensures.is d t _ x3.1 in
    let x5 = c.in_ok-ttl.ensures.is d t _ x4.1 in
    let x6 = c.in_ok-cache.ensures.is d t _ x5.1 in
    let x7 = c.in_ok-block_limit.ensures.is d t _ x6.1 in
    L.none-unread _ c.from_residual-in_err-peer_limit.ensures ∙ L.unread-gone _ _ (c.in_err-peer_limit.ensures d t _ x7.1)

pub returns : goal.returns
unfolding F.FormAt F.pool_of K.NoField K.IfEnds
returns c = λ d t s h.
    let x0 = c.in_ok-capacity.ensures.is d t _ h in
    let x1 = c.in_ok-min_fee.ensures.is d t _ x0.1 in
    let x2 = c.in_ok-strategy.ensures.is d t _ x1.1 in
    let x3 = c.in_ok-interval.ensures.is d t _ x2.1 in
    let x4 = c.in_ok-rebroadcast.ensures.is d t _ x3.1 in
    let x5 = c.in_ok-ttl.ensures.is d t _ x4.1 in
    let x6 = c.in_ok-cache.ensures.is d t _ x5.1 in
    let x7 = c.in_ok-block_limit.ensures.is d t _ x6.1 in
    let x8 = c.in_ok-peer_limit.ensures.is d t _ x7.1 in
    L.whole-as _ _ _ _ (L.or-unread _ _ _ (c.if_ends.ensures d t _ x8.1)) (λ i. V.Pool (record { capacity = x0.0 i; min_fee = x1.0 i; strategy = x2.0 i; interval = x3.0 i; rebroadcast = x4.0 i; ttl = x5.0 i; cache = x6.0 i; block_limit = x7.0 i; peer_limit = x8.0 i }))
