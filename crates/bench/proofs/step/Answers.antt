-- `bench::step` meets its contract. Each request is made by a step of its own.
-- Assumes nothing.
use Rattle.bench.proofs.step.Goals as goal

pub returns-in-Call : goal.returns-in-Call
returns-in-Call c =
    let a = c.args in
    λ there es us vs. rw c.in-Call.is (c.step_call.ensures a.waiting.now there es us vs)

pub returns-in-Take : goal.returns-in-Take
returns-in-Take c =
    let a = c.args in
    λ there es us vs. rw c.in-Take.is (c.step_take.ensures a.given.now a.send.now a.buffer.now there es us vs)

pub returns-in-Offer : goal.returns-in-Offer
returns-in-Offer c =
    let a = c.args in
    λ there es us vs. rw c.in-Offer.is (c.step_offer.ensures a.send.now a.buffer.now a.waiting.now there es us vs)
