-- One interrupt, as document 01's "Shape and tables" has it: whether it is implemented, and the eight bits of its record.
use Rattle.std.specs.Prelude.{Bool, cond, ◌&&◌, ◌||◌, ℕ, ◌+◌, ◌*◌, ◌/◌, ◌%◌, eqb}
use Rattle.lists.specs.Word.{digit}
use Rattle.types.specs.declared.Bit.{Bit}
use Rattle.types.specs.declared.Bit.TheVariants.{Enabled, Latch, Wire, MessageLevel, Active, Edge, Group, Modifier}
use Rattle.types.specs.declared.Shape.{Shape}
use Rattle.meaning.specs.Interrupt.{Interrupt, sgi}

pub record Cell : Type 0 where
  pub implemented : Bool
  pub enabled : Bool
  pub latch : Bool
  pub wire : Bool
  pub message : Bool
  pub active : Bool
  pub edge : Bool
  pub group : Bool
  pub modifier : Bool
  -- what a number has above its eight bits: of a byte, 0
  pub rest : ℕ

-- the record's bits, by value
abbrev pub value : Bit → ℕ
value Enabled = 1
value Latch = 2
value Wire = 4
value MessageLevel = 8
value Active = 16
value Edge = 32
value Group = 64
value Modifier = 128

unfoldable pub get : Bit → Cell → Bool
get Enabled c = c.enabled
get Latch c = c.latch
get Wire c = c.wire
get MessageLevel c = c.message
get Active c = c.active
get Edge c = c.edge
get Group c = c.group
get Modifier c = c.modifier

-- v, where b is the bit that is put; else the bit as it was
abbrev put_at : Bit → Bit → Bool → Bool → Bool
put_at a b v old = cond (eqb (value a) (value b)) v old

-- the cell with one bit of its record set to v
unfoldable pub put : Bit → Bool → Cell → Cell
put b v c =
    record {
      implemented = c.implemented;
      enabled = put_at Enabled b v c.enabled;
      latch = put_at Latch b v c.latch;
      wire = put_at Wire b v c.wire;
      message = put_at MessageLevel b v c.message;
      active = put_at Active b v c.active;
      edge = put_at Edge b v c.edge;
      group = put_at Group b v c.group;
      modifier = put_at Modifier b v c.modifier;
      rest = c.rest;
    }

-- The lent number of a record. Every byte has a meaning.
abbrev pub has : Bit → ℕ → Bool
has b n = eqb (n / value b % 2) 1

-- the cell of a number, i saying whether its interrupt is implemented
unfoldable pub decode : Bool → ℕ → Cell
decode i n =
    record {
      implemented = i;
      enabled = has Enabled n;
      latch = has Latch n;
      wire = has Wire n;
      message = has MessageLevel n;
      active = has Active n;
      edge = has Edge n;
      group = has Group n;
      modifier = has Modifier n;
      rest = n / 256;
    }

abbrev weighed : Bit → Bool → ℕ
weighed b v = value b * digit v

-- the number of a cell's record
unfoldable pub encode : Cell → ℕ
encode c =
    weighed Enabled c.enabled + weighed Latch c.latch + weighed Wire c.wire + weighed MessageLevel c.message
    + weighed Active c.active + weighed Edge c.edge + weighed Group c.group + weighed Modifier c.modifier
    + 256 * c.rest

-- Non-secure means group 1, whatever the modifier (document 02, CR 2): group alone and both bits 1 are Non-secure Group 1. The others
-- are Secure: both bits 0 is Group 0, modifier alone is Secure Group 1.
unfoldable pub non_secure : Cell → Bool
non_secure c = c.group

-- implemented and Non-secure. The Non-secure side owns a bit when its interrupt is owned and its word is not res0.
unfoldable pub owned : Cell → Bool
owned c = c.implemented && non_secure c

-- SGIs are edge whatever the edge bit says
unfoldable pub edge_of : Interrupt → Cell → Bool
edge_of i c = sgi i || c.edge

-- pending: edge, the latch; level, latch or wire or message level
unfoldable pub pending : Shape → Interrupt → Cell → Bool
pending s i c = cond (edge_of i c) c.latch (c.latch || (c.wire || c.message))
