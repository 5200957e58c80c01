-- The definitions at work, each computed: the lines of a script, with bytes and lines at their bounds.
-- Assumes nothing.
use Rattle.std.specs.Prelude.{◌≡◌, refl, true, false, [], ◌∷◌, Some, None}
use Rattle.cells.specs.Equal.{same_bytes}
use Rattle.cells.specs.Found.{index_of}
use Rattle.script.specs.TextParts.{begins, word_of, behind_word}
use Rattle.digits.specs.DecimalRead.{read_on, number_of}
use Rattle.digits.specs.HexadecimalRead.{are_pairs, bytes_of, bytes_read}
use Rattle.script.specs.LineEnds.{too_long}
use Rattle.script.specs.FirstLine.{sizes_of, first_line_of}
use Rattle.script.specs.WordsAsked.{no_bytes, plain, given_of, offer_of, take_of, read_of}
use Rattle.script.specs.CallLine.{request_of, call_of}
use Rattle.control.specs.declared.Deferred.TheVariants.{Turn, End}
use Rattle.script.specs.declared.Verb.TheVariants.{Allocate, SendError, RequestToSend, SendData, Defer, Withdraw, Receive}
use Rattle.script.specs.Closing.{prepare_to_receive, deallocate}
use Rattle.script.specs.declared.Flow.TheVariants.{Normal, Expedited}
use Rattle.script.specs.declared.Request.TheVariants.{Call, Take, Offer}

-- ---- the length of a script

longest_read : too_long 1048576 ≡ false
longest_read = refl

one_more_not_read : too_long 1048577 ≡ true
one_more_not_read = refl

-- ---- first lines

-- `ends 3 64 3 64 192 192`
ends : first_line_of (0x65 ∷ 0x6E ∷ 0x64 ∷ 0x73 ∷ 0x20 ∷ 0x33 ∷ 0x20 ∷ 0x36 ∷ 0x34 ∷ 0x20 ∷ 0x33 ∷ 0x20 ∷ 0x36 ∷ 0x34 ∷ 0x20 ∷ 0x31 ∷ 0x39 ∷ 0x32 ∷ 0x20 ∷ 0x31 ∷ 0x39 ∷ 0x32 ∷ []) ≡ Some (record { window12 = 3; max12 = 64; window21 = 3; max21 = 64; inbox1 = 192; inbox2 = 192 })
unfolding first_line_of sizes_of begins same_bytes word_of behind_word index_of number_of read_on
ends = refl

-- `ends 3 64 3 64 192`: five numbers
ends_five : first_line_of (0x65 ∷ 0x6E ∷ 0x64 ∷ 0x73 ∷ 0x20 ∷ 0x33 ∷ 0x20 ∷ 0x36 ∷ 0x34 ∷ 0x20 ∷ 0x33 ∷ 0x20 ∷ 0x36 ∷ 0x34 ∷ 0x20 ∷ 0x31 ∷ 0x39 ∷ 0x32 ∷ []) ≡ None
unfolding first_line_of sizes_of begins same_bytes word_of behind_word index_of number_of read_on
ends_five = refl

-- `ends 3 64 3 64 192 192 `: a blank behind the sixth
ends_blank_behind : first_line_of (0x65 ∷ 0x6E ∷ 0x64 ∷ 0x73 ∷ 0x20 ∷ 0x33 ∷ 0x20 ∷ 0x36 ∷ 0x34 ∷ 0x20 ∷ 0x33 ∷ 0x20 ∷ 0x36 ∷ 0x34 ∷ 0x20 ∷ 0x31 ∷ 0x39 ∷ 0x32 ∷ 0x20 ∷ 0x31 ∷ 0x39 ∷ 0x32 ∷ 0x20 ∷ []) ≡ None
unfolding first_line_of sizes_of begins same_bytes word_of behind_word index_of number_of read_on
ends_blank_behind = refl

-- `ends 3  64 3 64 192 192`: two blanks
ends_two_blanks : first_line_of (0x65 ∷ 0x6E ∷ 0x64 ∷ 0x73 ∷ 0x20 ∷ 0x33 ∷ 0x20 ∷ 0x20 ∷ 0x36 ∷ 0x34 ∷ 0x20 ∷ 0x33 ∷ 0x20 ∷ 0x36 ∷ 0x34 ∷ 0x20 ∷ 0x31 ∷ 0x39 ∷ 0x32 ∷ 0x20 ∷ 0x31 ∷ 0x39 ∷ 0x32 ∷ []) ≡ None
unfolding first_line_of sizes_of begins same_bytes word_of behind_word index_of number_of read_on
ends_two_blanks = refl

-- ---- lines that ask for a call; 2,048 cells are lent

-- `2 allocate`
bid : call_of (0x32 ∷ 0x20 ∷ 0x61 ∷ 0x6C ∷ 0x6C ∷ 0x6F ∷ 0x63 ∷ 0x61 ∷ 0x74 ∷ 0x65 ∷ []) 2048 ≡ no_bytes (plain true (Call Allocate) 0)
unfolding call_of request_of begins same_bytes given_of offer_of take_of read_of bytes_read are_pairs bytes_of number_of read_on
bid = refl

-- `1 send 0005414243`
gives : call_of (0x31 ∷ 0x20 ∷ 0x73 ∷ 0x65 ∷ 0x6E ∷ 0x64 ∷ 0x20 ∷ 0x30 ∷ 0x30 ∷ 0x30 ∷ 0x35 ∷ 0x34 ∷ 0x31 ∷ 0x34 ∷ 0x32 ∷ 0x34 ∷ 0x33 ∷ []) 2048 ≡ record { parsed = plain false (Call SendData) 5; given = 0x00 ∷ 0x05 ∷ 0x41 ∷ 0x42 ∷ 0x43 ∷ [] }
unfolding call_of request_of begins same_bytes given_of offer_of take_of read_of bytes_read are_pairs bytes_of number_of read_on
gives = refl

-- `1 send`
gives_none : call_of (0x31 ∷ 0x20 ∷ 0x73 ∷ 0x65 ∷ 0x6E ∷ 0x64 ∷ []) 2048 ≡ no_bytes (plain false (Call SendData) 0)
unfolding call_of request_of begins same_bytes given_of offer_of take_of read_of bytes_read are_pairs bytes_of number_of read_on
gives_none = refl

-- `1 end confirm`
ends_with_confirm : call_of (0x31 ∷ 0x20 ∷ 0x65 ∷ 0x6E ∷ 0x64 ∷ 0x20 ∷ 0x63 ∷ 0x6F ∷ 0x6E ∷ 0x66 ∷ 0x69 ∷ 0x72 ∷ 0x6D ∷ []) 2048 ≡ no_bytes (plain false (Call (deallocate true)) 0)
unfolding call_of request_of begins same_bytes given_of offer_of take_of read_of bytes_read are_pairs bytes_of number_of read_on
ends_with_confirm = refl

-- `2 turn`
turns : call_of (0x32 ∷ 0x20 ∷ 0x74 ∷ 0x75 ∷ 0x72 ∷ 0x6E ∷ []) 2048 ≡ no_bytes (plain true (Call (prepare_to_receive false)) 0)
unfolding call_of request_of begins same_bytes given_of offer_of take_of read_of bytes_read are_pairs bytes_of number_of read_on
turns = refl

-- `1 prepare turn`
prepares_turn : call_of (0x31 ∷ 0x20 ∷ 0x70 ∷ 0x72 ∷ 0x65 ∷ 0x70 ∷ 0x61 ∷ 0x72 ∷ 0x65 ∷ 0x20 ∷ 0x74 ∷ 0x75 ∷ 0x72 ∷ 0x6E ∷ []) 2048
    ≡ no_bytes (plain false (Call (Defer Turn)) 0)
unfolding call_of request_of begins same_bytes given_of offer_of take_of read_of bytes_read are_pairs bytes_of number_of read_on
prepares_turn = refl

-- `2 prepare end`
prepares_end : call_of (0x32 ∷ 0x20 ∷ 0x70 ∷ 0x72 ∷ 0x65 ∷ 0x70 ∷ 0x61 ∷ 0x72 ∷ 0x65 ∷ 0x20 ∷ 0x65 ∷ 0x6E ∷ 0x64 ∷ []) 2048
    ≡ no_bytes (plain true (Call (Defer End)) 0)
unfolding call_of request_of begins same_bytes given_of offer_of take_of read_of bytes_read are_pairs bytes_of number_of read_on
prepares_end = refl

-- `1 withdraw`
withdraws : call_of (0x31 ∷ 0x20 ∷ 0x77 ∷ 0x69 ∷ 0x74 ∷ 0x68 ∷ 0x64 ∷ 0x72 ∷ 0x61 ∷ 0x77 ∷ []) 2048 ≡ no_bytes (plain false (Call Withdraw) 0)
unfolding call_of request_of begins same_bytes given_of offer_of take_of read_of bytes_read are_pairs bytes_of number_of read_on
withdraws = refl

-- `2 deny`
denies : call_of (0x32 ∷ 0x20 ∷ 0x64 ∷ 0x65 ∷ 0x6E ∷ 0x79 ∷ []) 2048 ≡ no_bytes (plain true (Call SendError) 0)
unfolding call_of request_of begins same_bytes given_of offer_of take_of read_of bytes_read are_pairs bytes_of number_of read_on
denies = refl

-- `1 request`
requests : call_of (0x31 ∷ 0x20 ∷ 0x72 ∷ 0x65 ∷ 0x71 ∷ 0x75 ∷ 0x65 ∷ 0x73 ∷ 0x74 ∷ []) 2048 ≡ no_bytes (plain false (Call RequestToSend) 0)
unfolding call_of request_of begins same_bytes given_of offer_of take_of read_of bytes_read are_pairs bytes_of number_of read_on
requests = refl

-- `2 take`
takes : call_of (0x32 ∷ 0x20 ∷ 0x74 ∷ 0x61 ∷ 0x6B ∷ 0x65 ∷ []) 2048 ≡ no_bytes (plain true (Take Normal) 0)
unfolding call_of request_of begins same_bytes given_of offer_of take_of read_of bytes_read are_pairs bytes_of number_of read_on
takes = refl

-- `1 take 0001CB`
offers : call_of (0x31 ∷ 0x20 ∷ 0x74 ∷ 0x61 ∷ 0x6B ∷ 0x65 ∷ 0x20 ∷ 0x30 ∷ 0x30 ∷ 0x30 ∷ 0x31 ∷ 0x43 ∷ 0x42 ∷ []) 2048 ≡ record { parsed = plain false (Offer Normal) 3; given = 0x00 ∷ 0x01 ∷ 0xCB ∷ [] }
unfolding call_of request_of begins same_bytes given_of offer_of take_of read_of bytes_read are_pairs bytes_of number_of read_on
offers = refl

-- `1 take -`
offers_no_byte : call_of (0x31 ∷ 0x20 ∷ 0x74 ∷ 0x61 ∷ 0x6B ∷ 0x65 ∷ 0x20 ∷ 0x2D ∷ []) 2048 ≡ no_bytes (plain false (Offer Normal) 0)
unfolding call_of request_of begins same_bytes given_of offer_of take_of read_of bytes_read are_pairs bytes_of number_of read_on
offers_no_byte = refl

-- `1 take expedited`
takes_expedited : call_of (0x31 ∷ 0x20 ∷ 0x74 ∷ 0x61 ∷ 0x6B ∷ 0x65 ∷ 0x20 ∷ 0x65 ∷ 0x78 ∷ 0x70 ∷ 0x65 ∷ 0x64 ∷ 0x69 ∷ 0x74 ∷ 0x65 ∷ 0x64 ∷ []) 2048
    ≡ no_bytes (plain false (Take Expedited) 0)
unfolding call_of request_of begins same_bytes given_of offer_of take_of read_of bytes_read are_pairs bytes_of number_of read_on
takes_expedited = refl

-- `2 take expedited 0001CB`
offers_expedited : call_of
    (0x32 ∷ 0x20 ∷ 0x74 ∷ 0x61 ∷ 0x6B ∷ 0x65 ∷ 0x20 ∷ 0x65 ∷ 0x78 ∷ 0x70 ∷ 0x65 ∷ 0x64 ∷ 0x69 ∷ 0x74 ∷ 0x65
    ∷ 0x64 ∷ 0x20 ∷ 0x30 ∷ 0x30 ∷ 0x30 ∷ 0x31 ∷ 0x43 ∷ 0x42 ∷ []) 2048
    ≡ record { parsed = plain true (Offer Expedited) 3; given = 0x00 ∷ 0x01 ∷ 0xCB ∷ [] }
unfolding call_of request_of begins same_bytes given_of offer_of take_of read_of bytes_read are_pairs bytes_of number_of read_on
offers_expedited = refl

-- `1 take expedited -`
offers_expedited_no_byte : call_of
    (0x31 ∷ 0x20 ∷ 0x74 ∷ 0x61 ∷ 0x6B ∷ 0x65 ∷ 0x20 ∷ 0x65 ∷ 0x78 ∷ 0x70 ∷ 0x65 ∷ 0x64 ∷ 0x69 ∷ 0x74 ∷ 0x65
    ∷ 0x64 ∷ 0x20 ∷ 0x2D ∷ []) 2048
    ≡ no_bytes (plain false (Offer Expedited) 0)
unfolding call_of request_of begins same_bytes given_of offer_of take_of read_of bytes_read are_pairs bytes_of number_of read_on
offers_expedited_no_byte = refl

-- `2 read 64`
reads : call_of (0x32 ∷ 0x20 ∷ 0x72 ∷ 0x65 ∷ 0x61 ∷ 0x64 ∷ 0x20 ∷ 0x36 ∷ 0x34 ∷ []) 2048 ≡ no_bytes (plain true (Call Receive) 64)
unfolding call_of request_of begins same_bytes given_of offer_of take_of read_of bytes_read are_pairs bytes_of number_of read_on
reads = refl

-- `2 read 2048`
reads_most : call_of (0x32 ∷ 0x20 ∷ 0x72 ∷ 0x65 ∷ 0x61 ∷ 0x64 ∷ 0x20 ∷ 0x32 ∷ 0x30 ∷ 0x34 ∷ 0x38 ∷ []) 2048 ≡ no_bytes (plain true (Call Receive) 2048)
unfolding call_of request_of begins same_bytes given_of offer_of take_of read_of bytes_read are_pairs bytes_of number_of read_on
reads_most = refl

-- `2 read 2049`
reads_too_many : call_of (0x32 ∷ 0x20 ∷ 0x72 ∷ 0x65 ∷ 0x61 ∷ 0x64 ∷ 0x20 ∷ 0x32 ∷ 0x30 ∷ 0x34 ∷ 0x39 ∷ []) 2048 ≡ no_bytes None
unfolding call_of request_of begins same_bytes given_of offer_of take_of read_of bytes_read are_pairs bytes_of number_of read_on
reads_too_many = refl

-- `3 take`
third_end : call_of (0x33 ∷ 0x20 ∷ 0x74 ∷ 0x61 ∷ 0x6B ∷ 0x65 ∷ []) 2048 ≡ no_bytes None
unfolding call_of request_of begins same_bytes given_of offer_of take_of read_of bytes_read are_pairs bytes_of number_of read_on
third_end = refl

-- `1 prepare`
prepares_nothing : call_of (0x31 ∷ 0x20 ∷ 0x70 ∷ 0x72 ∷ 0x65 ∷ 0x70 ∷ 0x61 ∷ 0x72 ∷ 0x65 ∷ []) 2048 ≡ no_bytes None
unfolding call_of request_of begins same_bytes given_of offer_of take_of read_of bytes_read are_pairs bytes_of number_of read_on
prepares_nothing = refl

-- `1 prepare turn confirm`
prepares_with_confirm : call_of
    (0x31 ∷ 0x20 ∷ 0x70 ∷ 0x72 ∷ 0x65 ∷ 0x70 ∷ 0x61 ∷ 0x72 ∷ 0x65 ∷ 0x20 ∷ 0x74 ∷ 0x75 ∷ 0x72 ∷ 0x6E ∷ 0x20
    ∷ 0x63 ∷ 0x6F ∷ 0x6E ∷ 0x66 ∷ 0x69 ∷ 0x72 ∷ 0x6D ∷ []) 2048
    ≡ no_bytes None
unfolding call_of request_of begins same_bytes given_of offer_of take_of read_of bytes_read are_pairs bytes_of number_of read_on
prepares_with_confirm = refl

-- `1 withdraw turn`
withdraws_turn : call_of (0x31 ∷ 0x20 ∷ 0x77 ∷ 0x69 ∷ 0x74 ∷ 0x68 ∷ 0x64 ∷ 0x72 ∷ 0x61 ∷ 0x77 ∷ 0x20 ∷ 0x74 ∷ 0x75 ∷ 0x72 ∷ 0x6E ∷ []) 2048 ≡ no_bytes None
unfolding call_of request_of begins same_bytes given_of offer_of take_of read_of bytes_read are_pairs bytes_of number_of read_on
withdraws_turn = refl

-- `2 deny 0889`: a cause is not given
denies_with_cause : call_of (0x32 ∷ 0x20 ∷ 0x64 ∷ 0x65 ∷ 0x6E ∷ 0x79 ∷ 0x20 ∷ 0x30 ∷ 0x38 ∷ 0x38 ∷ 0x39 ∷ []) 2048 ≡ no_bytes None
unfolding call_of request_of begins same_bytes given_of offer_of take_of read_of bytes_read are_pairs bytes_of number_of read_on
denies_with_cause = refl

-- `1 request turn`
requests_turn : call_of (0x31 ∷ 0x20 ∷ 0x72 ∷ 0x65 ∷ 0x71 ∷ 0x75 ∷ 0x65 ∷ 0x73 ∷ 0x74 ∷ 0x20 ∷ 0x74 ∷ 0x75 ∷ 0x72 ∷ 0x6E ∷ []) 2048 ≡ no_bytes None
unfolding call_of request_of begins same_bytes given_of offer_of take_of read_of bytes_read are_pairs bytes_of number_of read_on
requests_turn = refl

-- `1 take expedited ` with its blank and no byte
expedited_blank : call_of (0x31 ∷ 0x20 ∷ 0x74 ∷ 0x61 ∷ 0x6B ∷ 0x65 ∷ 0x20 ∷ 0x65 ∷ 0x78 ∷ 0x70 ∷ 0x65 ∷ 0x64 ∷ 0x69 ∷ 0x74 ∷ 0x65 ∷ 0x64 ∷ 0x20 ∷ []) 2048
    ≡ no_bytes None
unfolding call_of request_of begins same_bytes given_of offer_of take_of read_of bytes_read are_pairs bytes_of number_of read_on
expedited_blank = refl

-- `1 take expeditedCB`
expedited_joined : call_of
    (0x31 ∷ 0x20 ∷ 0x74 ∷ 0x61 ∷ 0x6B ∷ 0x65 ∷ 0x20 ∷ 0x65 ∷ 0x78 ∷ 0x70 ∷ 0x65 ∷ 0x64 ∷ 0x69 ∷ 0x74 ∷ 0x65
    ∷ 0x64 ∷ 0x43 ∷ 0x42 ∷ []) 2048
    ≡ no_bytes None
unfolding call_of request_of begins same_bytes given_of offer_of take_of read_of bytes_read are_pairs bytes_of number_of read_on
expedited_joined = refl

-- `1 send ` with its blank and no byte
send_blank : call_of (0x31 ∷ 0x20 ∷ 0x73 ∷ 0x65 ∷ 0x6E ∷ 0x64 ∷ 0x20 ∷ []) 2048 ≡ no_bytes None
unfolding call_of request_of begins same_bytes given_of offer_of take_of read_of bytes_read are_pairs bytes_of number_of read_on
send_blank = refl

-- `1 send 0a`
send_lower_case : call_of (0x31 ∷ 0x20 ∷ 0x73 ∷ 0x65 ∷ 0x6E ∷ 0x64 ∷ 0x20 ∷ 0x30 ∷ 0x61 ∷ []) 2048 ≡ no_bytes None
unfolding call_of request_of begins same_bytes given_of offer_of take_of read_of bytes_read are_pairs bytes_of number_of read_on
send_lower_case = refl

-- `1 send 0A0`
send_half_byte : call_of (0x31 ∷ 0x20 ∷ 0x73 ∷ 0x65 ∷ 0x6E ∷ 0x64 ∷ 0x20 ∷ 0x30 ∷ 0x41 ∷ 0x30 ∷ []) 2048 ≡ no_bytes None
unfolding call_of request_of begins same_bytes given_of offer_of take_of read_of bytes_read are_pairs bytes_of number_of read_on
send_half_byte = refl

-- `1 take` and 0D
carriage_return : call_of (0x31 ∷ 0x20 ∷ 0x74 ∷ 0x61 ∷ 0x6B ∷ 0x65 ∷ 0x0D ∷ []) 2048 ≡ no_bytes None
unfolding call_of request_of begins same_bytes given_of offer_of take_of read_of bytes_read are_pairs bytes_of number_of read_on
carriage_return = refl

-- ``: the empty line
empty : call_of [] 2048 ≡ no_bytes None
unfolding call_of request_of begins same_bytes given_of offer_of take_of read_of bytes_read are_pairs bytes_of number_of read_on
empty = refl

-- two bytes, and cells for one
no_cells : call_of (0x31 ∷ 0x20 ∷ 0x73 ∷ 0x65 ∷ 0x6E ∷ 0x64 ∷ 0x20 ∷ 0x30 ∷ 0x31 ∷ 0x30 ∷ 0x32 ∷ []) 1 ≡ no_bytes None
unfolding call_of request_of begins same_bytes given_of offer_of take_of read_of bytes_read are_pairs bytes_of number_of read_on
no_cells = refl
