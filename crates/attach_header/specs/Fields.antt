-- The fields of an attach header as lists of bytes, and how a program keeps them.
-- Assumes nothing.
use Rattle.std.specs.Prelude.{ℕ, Bool, cond, ◌&&◌, ◌||◌, List, [], eqb, leb, length, take, replicate}
use Rattle.cells.specs.Cells.{front}
use Rattle.attach_header.specs.Characters.{is_empty, program_good, data_good, lu_name_good}
use Rattle.attach_header.specs.declared.SymbolString.{SymbolString}
use Rattle.attach_header.specs.declared.Attach.{Attach}

-- every field of the header. A string of no byte is an absent one; without an LU name there is no logical unit of work, and so neither
-- its instance nor its sequence number
pub record Fields : Type 0 where
  pub pip : ℕ
  pub resource : ℕ
  pub sync : ℕ
  pub program : List ℕ
  pub profile : List ℕ
  pub password : List ℕ
  pub user : List ℕ
  pub lu : List ℕ
  pub instance : List ℕ
  pub sequence : List ℕ

-- ---- kept in cells: the bytes up to the length

abbrev pub text_of : SymbolString → List ℕ
text_of s = take s.length s.bytes

unfoldable pub fields_of : Attach → Fields
fields_of a =
    let none : Bool = is_empty (text_of a.lu) in
    record {
      pip = a.pip;
      resource = a.resource;
      sync = a.sync;
      program = text_of a.program;
      profile = text_of a.profile;
      password = text_of a.password;
      user = text_of a.user;
      lu = text_of a.lu;
      instance = cond none [] a.instance;
      sequence = cond none [] a.sequence;
    }

-- the cells past the length are 0
unfoldable pub string_of : List ℕ → SymbolString
string_of x = record { length = length x; bytes = front x (replicate 64 0) }

unfoldable pub attach_of : Fields → Attach
attach_of f =
    record {
      pip = f.pip;
      resource = f.resource;
      sync = f.sync;
      program = string_of f.program;
      profile = string_of f.profile;
      password = string_of f.password;
      user = string_of f.user;
      lu = string_of f.lu;
      instance = front f.instance (replicate 6 0);
      sequence = front f.sequence (replicate 2 0);
    }

-- ---- the fields that appendix H allows

-- D0 basic conversation, D1 mapped conversation
abbrev pub resource_good : ℕ → Bool
resource_good b = eqb b 0xD0 || eqb b 0xD1

-- 0 none, 1 confirm, 2 confirm, sync point and backout; 3 is reserved
abbrev pub sync_good : ℕ → Bool
sync_good n = leb n 2

-- an LU name with an instance number of 6 bytes and a sequence number of 2, or none of the three
unfoldable pub work_good : Fields → Bool
work_good f =
    cond (is_empty f.lu) (is_empty f.instance && is_empty f.sequence)
    (lu_name_good f.lu && eqb (length f.instance) 6 && eqb (length f.sequence) 2)

unfoldable pub fields_good : Fields → Bool
fields_good f =
    leb f.pip 1 && resource_good f.resource && sync_good f.sync && program_good f.program
    && data_good f.profile && data_good f.password && data_good f.user && work_good f
