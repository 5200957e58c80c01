-- `image::decoding::good_record` meets its contract: format and values are asked first, then each record place.
-- Assumes nothing.
use mathlib.Core.Path.{◌∙◌}
use Rattle.image.proofs.WhatIsRefused.{some_place, bad_values, bad_given, bad_taken, bad_read, all_good}
use Rattle.image.proofs.decoding.good_record.Goals as goal

pub returns-then-not-format_good-codes_good : goal.returns-then-not-format_good-codes_good
returns-then-not-format_good-codes_good c =
    bad_values c.args.image.now c.format_good.ensures c.codes_good.ensures c.flags_good.ensures c.if-not-format_good-codes_good.true

pub returns-in_err-given : goal.returns-in_err-given
returns-in_err-given c = c.from_residual.ensures ∙ bad_given c.args.image.now c.place_at.ensures c.in_err-given.was

pub returns-in_err-taken : goal.returns-in_err-taken
returns-in_err-taken c = c.from_residual-in_err-taken.ensures ∙ bad_taken c.args.image.now c.place_at-2.ensures c.in_err-taken.was

pub returns-in_err-read : goal.returns-in_err-read
returns-in_err-read c = c.from_residual-in_err-read.ensures ∙ bad_read c.args.image.now c.place_at-3.ensures c.in_err-read.was

pub record_in-requires : goal.record_in-requires
record_in-requires c = let i = c.args.image.now in (
  (some_place i 18 c.place_at.ensures c.in_ok-given.was).1,
  (some_place i 32 c.place_at-2.ensures c.in_ok-taken.was).1,
  (some_place i 35 c.place_at-3.ensures c.in_ok-read.was).1,
)

pub returns : goal.returns
returns c = let i = c.args.image.now in
    all_good i c.format_good.ensures c.codes_good.ensures c.flags_good.ensures c.if-not-format_good-codes_good.false
    (some_place i 18 c.place_at.ensures c.in_ok-given.was).0
    (some_place i 32 c.place_at-2.ensures c.in_ok-taken.was).0
    (some_place i 35 c.place_at-3.ensures c.in_ok-read.was).0
    c.record_in.ensures
