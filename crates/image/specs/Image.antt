-- An end's record as an image of 48 bytes, with no padding; a host keeps it in memory of its own.
-- Assumes nothing.
use Rattle.std.specs.Prelude.{ℕ, Bool, cond, ◌&&◌, List, [], ◌∷◌, ◌++◌, eqb, leb, length, Option, Some, None, Result, Ok, Err}
use Rattle.control.specs.StateTests.{role_number, state_number, mark_number}
use Rattle.control.specs.declared.Control.{Control}
use Rattle.answers.specs.declared.refusals.Refusal.{Refusal}
use Rattle.answers.specs.declared.refusals.Refusal.TheVariants.{BadBuffer, BadRecord}
use Rattle.control.specs.StateTests.{role_of}
use Rattle.expedited.specs.declared.Expedited.{Expedited}
use Rattle.end.specs.declared.End.{End}
use Rattle.sending.specs.declared.Sending.{Sending}
use Rattle.receiving.specs.declared.Receiving.{Receiving}
use Rattle.image.specs.Codes.{state_of, follows_number, follows_of, mark_of}
use Rattle.image.specs.ImageParts.{byte_at, flag_byte, flag_at, flag_good, number_bytes, number_at, window_bytes, window_at, place_bytes, place_at, place_good}

-- the length of an image
abbrev pub IMAGE : ℕ
IMAGE = 48

-- an image's first byte, raised with each change by which an image would be read as another record; a code more does not raise it. Images without one
-- began with the role, 0 or 1
abbrev pub FORMAT : ℕ
FORMAT = 5

-- ---- a record written

-- bytes 1 to 8: the finite part but for the error-due flag
abbrev pub control_bytes : Control → List ℕ
control_bytes c =
    role_number c.role ∷ state_number c.state ∷ follows_number c.follows ∷ mark_number c.mark
    ∷ flag_byte c.due ∷ flag_byte c.bid ∷ flag_byte c.outchain ∷ flag_byte c.inchain ∷ []

-- bytes 9 to 20
abbrev pub sending_bytes : Sending → List ℕ
sending_bytes s = window_bytes s.window ++ number_bytes s.max ++ number_bytes s.held ++ number_bytes s.number ++ place_bytes s.given

-- bytes 21 to 37
abbrev pub receiving_bytes : Receiving → List ℕ
receiving_bytes r =
    window_bytes r.window ++ number_bytes r.max ++ number_bytes r.inbox ++ number_bytes r.held ++ number_bytes r.number
    ++ place_bytes r.taken ++ place_bytes r.read

-- bytes 43 to 47
abbrev pub expedited_bytes : Expedited → List ℕ
expedited_bytes x = (flag_byte x.unanswered ∷ number_bytes x.sent) ++ number_bytes x.taken

-- the format is byte 0, the bid's number bytes 38 and 39, the number owed bytes 40 and 41, the error-due flag byte 42
unfoldable pub image_of : End → List ℕ
image_of e =
    (FORMAT ∷ control_bytes e.control) ++ sending_bytes e.sending ++ receiving_bytes e.receiving ++ number_bytes e.bidding
    ++ number_bytes e.owed ++ (flag_byte e.control.error ∷ expedited_bytes e.expedited)

-- written only over cells that are as many as an image has
unfoldable pub image_written : End → List ℕ → List ℕ
image_written e cells = cond (eqb (length cells) IMAGE) (image_of e) cells

-- ---- a record read

abbrev pub control_in : List ℕ → Control
control_in image =
    record {
      role = role_of (byte_at image 1);
      state = state_of (byte_at image 2);
      follows = follows_of (byte_at image 3);
      mark = mark_of (byte_at image 4);
      due = flag_at image 5;
      error = flag_at image 42;
      bid = flag_at image 6;
      outchain = flag_at image 7;
      inchain = flag_at image 8;
    }

abbrev pub sending_in : List ℕ → Sending
sending_in image =
    record {
      window = window_at image 9;
      max = number_at image 12;
      held = number_at image 14;
      number = number_at image 16;
      given = place_at image 18;
    }

abbrev pub receiving_in : List ℕ → Receiving
receiving_in image =
    record {
      window = window_at image 21;
      max = number_at image 24;
      inbox = number_at image 26;
      held = number_at image 28;
      number = number_at image 30;
      taken = place_at image 32;
      read = place_at image 35;
    }

abbrev pub expedited_in : List ℕ → Expedited
expedited_in image = record { unanswered = flag_at image 43; sent = number_at image 44; taken = number_at image 46 }

unfoldable pub record_in : List ℕ → End
record_in image =
    record {
      control = control_in image;
      sending = sending_in image;
      receiving = receiving_in image;
      bidding = number_at image 38;
      owed = number_at image 40;
      expedited = expedited_in image;
    }

-- ---- is every value one that a record has?

abbrev pub format_good : List ℕ → Bool
format_good image = eqb (byte_at image 0) FORMAT

abbrev pub codes_good : List ℕ → Bool
codes_good image = leb (byte_at image 1) 1 && (leb (byte_at image 2) 6 && (leb (byte_at image 3) 2 && leb (byte_at image 4) 6))

abbrev pub flags_good : List ℕ → Bool
flags_good image =
    flag_good image 5
    && (flag_good image 6
    && (flag_good image 7 && (flag_good image 8 && (flag_good image 11 && (flag_good image 23 && (flag_good image 42 && flag_good image 43))))))

abbrev pub places_good : List ℕ → Bool
places_good image = place_good image 18 && (place_good image 32 && place_good image 35)

unfoldable pub image_good : List ℕ → Bool
image_good image = format_good image && (codes_good image && (flags_good image && places_good image))

abbrev pub good_record : List ℕ → Option End
good_record image = cond (image_good image) (Some (record_in image)) None

-- ---- what an image of any length and any bytes holds

unfoldable pub image_read : List ℕ → Result End Refusal
image_read image = cond (eqb (length image) IMAGE) (cond (image_good image) (Ok (record_in image)) (Err BadRecord)) (Err BadBuffer)
