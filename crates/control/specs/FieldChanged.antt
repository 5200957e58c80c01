-- The finite part with one field changed.
-- Assumes nothing.
use Rattle.std.specs.Prelude.{Bool}
use Rattle.header.specs.declared.Follows.{Follows}
use Rattle.control.specs.declared.State.{State}
use Rattle.control.specs.declared.WhatReceived.{WhatReceived}
use Rattle.control.specs.declared.Control.{Control}

abbrev pub set_state : State → Control → Control
set_state s c =
    record {
      role = c.role;
      state = s;
      follows = c.follows;
      mark = c.mark;
      due = c.due;
      error = c.error;
      bid = c.bid;
      outchain = c.outchain;
      inchain = c.inchain;
    }

abbrev pub set_follows : Follows → Control → Control
set_follows f c =
    record {
      role = c.role;
      state = c.state;
      follows = f;
      mark = c.mark;
      due = c.due;
      error = c.error;
      bid = c.bid;
      outchain = c.outchain;
      inchain = c.inchain;
    }

abbrev pub set_mark : WhatReceived → Control → Control
set_mark m c =
    record {
      role = c.role;
      state = c.state;
      follows = c.follows;
      mark = m;
      due = c.due;
      error = c.error;
      bid = c.bid;
      outchain = c.outchain;
      inchain = c.inchain;
    }

abbrev pub set_due : Bool → Control → Control
set_due b c =
    record {
      role = c.role;
      state = c.state;
      follows = c.follows;
      mark = c.mark;
      due = b;
      error = c.error;
      bid = c.bid;
      outchain = c.outchain;
      inchain = c.inchain;
    }

abbrev pub set_error : Bool → Control → Control
set_error b c =
    record {
      role = c.role;
      state = c.state;
      follows = c.follows;
      mark = c.mark;
      due = c.due;
      error = b;
      bid = c.bid;
      outchain = c.outchain;
      inchain = c.inchain;
    }

abbrev pub set_bid : Bool → Control → Control
set_bid b c =
    record {
      role = c.role;
      state = c.state;
      follows = c.follows;
      mark = c.mark;
      due = c.due;
      error = c.error;
      bid = b;
      outchain = c.outchain;
      inchain = c.inchain;
    }

abbrev pub set_outchain : Bool → Control → Control
set_outchain b c =
    record {
      role = c.role;
      state = c.state;
      follows = c.follows;
      mark = c.mark;
      due = c.due;
      error = c.error;
      bid = c.bid;
      outchain = b;
      inchain = c.inchain;
    }

abbrev pub set_inchain : Bool → Control → Control
set_inchain b c =
    record {
      role = c.role;
      state = c.state;
      follows = c.follows;
      mark = c.mark;
      due = c.due;
      error = c.error;
      bid = c.bid;
      outchain = c.outchain;
      inchain = b;
    }
