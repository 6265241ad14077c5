-- Listed words, and what the Non-secure side reads back of what it wrote there.
use Rattle.std.specs.Prelude.{◌≡◌, Bool, true, false, not, ◌&&◌, ◌||◌, ℕ, ◌+◌, ◌*◌, ◌%◌, ◌≤◌, ◌<◌, eqb, Ok}
use Rattle.lists.specs.Word.{digit, digit_at, row}
use Rattle.types.specs.declared.Side.TheVariants.{NonSecure}
use Rattle.types.specs.declared.Frame.{Frame}
use Rattle.types.specs.declared.Frame.TheVariants.{Dist, Redist}
use Rattle.types.specs.declared.Shape.{Shape}
use Rattle.types.specs.declared.Way.{Way}
use Rattle.types.specs.declared.Way.TheVariants.{Read, Write}
use Rattle.types.specs.declared.Switch.{Switch}
use Rattle.types.specs.declared.Switch.TheVariants.{Enable, Pending, Active}
use Rattle.types.specs.declared.Place.{Place}
use Rattle.types.specs.declared.Family.TheVariants.{Ispendr}
use Rattle.types.specs.declared.Window.{Window}
use Rattle.meaning.specs.Answers.{Answer}
use Rattle.meaning.specs.Interrupt.{interrupt}
use Rattle.meaning.specs.Cell.{owned}
use Rattle.meaning.specs.Layout.{Tables, cell_of}
use Rattle.meaning.specs.Registers.{bits_of, listed}
use Rattle.meaning.specs.Rule.{Step, access}
use Rattle.meaning.specs.Step.{Cells, stepped}

-- o is the offset of a listed word, and p its place
pub record ListedAt (r : Frame) (o : ℕ) (p : Place) : Type 0 where
  pub small : o ≤ 65535
  pub aligned : o % 4 ≡ 0
  pub known : listed r o ≡ Ok p

-- a word access of the Non-secure side
abbrev pub non_secure_word : Frame → Way → ℕ → ℕ → Step
non_secure_word r w o v = access (record { frame = r; side = NonSecure; way = w; width = 4; offset = o; value = v })

-- what the Non-secure side reads at a word (y is the value that a read carries and ignores), and the tables after it wrote v there
abbrev pub read_at : Shape → Frame → ℕ → ℕ → Tables → Answer
read_at s r o y t = (stepped s (non_secure_word r Read o y) t).answered

abbrev pub written_at : Shape → Frame → ℕ → ℕ → Tables → Tables
written_at s r o v t = (stepped s (non_secure_word r Write o v) t).tables

-- digit x of a word of the window is 1
abbrev pub one : Window → ℕ → ℕ → Bool
one w v x = eqb (digit_at (bits_of w.family) x v) 1

-- the old word, or v and the owned bits
unfoldable pub old_or_owned : Window → ℕ → ℕ → Cells → ℕ
old_or_owned w old v cells =
    row (bits_of w.family) w.count (λ x. digit ((one w v x && owned (cells (interrupt w.frame (w.first + x)))) || one w old x))

-- the old word, and not v
unfoldable pub old_and_not : Window → ℕ → ℕ → ℕ
old_and_not w old v = row (bits_of w.family) w.count (λ x. digit (not (one w v x) && one w old x))

-- the states whose clear registers show the very bit that they clear: a wire or a message may keep pending what was cleared
abbrev pub clears_shown : Switch → Bool
clears_shown Enable = true
clears_shown Pending = false
clears_shown Active = true

-- THE SET-PENDING WORDS of demand 3, each at its offset: read, written and read back at once, a word shows the old word with every
-- written bit that the Non-secure side owns.
abbrev pub ReadsBack : Shape → Tables → Frame → ℕ → ℕ → ℕ → Type 0
ReadsBack s t r o first count =
    (old v y z : ℕ) → read_at s r o y t ≡ Ok old
    → read_at s r o z (written_at s r o v t)
    ≡ Ok (old_or_owned (record { frame = r; family = Ispendr; first = first; count = count }) old v (cell_of s t))

pub record SetPending (s : Shape) (t : Tables) : Type 0 where
  -- the Distributor's word 0 is res0: it has a bit of none
  pub dist_0 : ReadsBack s t Dist 0x200 0 0
  pub dist : (n : ℕ) → n < 31 → ReadsBack s t Dist (0x204 + 4 * n) (32 + 32 * n) 32
  pub dist_extended : (n : ℕ) → n < 32 → ReadsBack s t Dist (0x1600 + 4 * n) (4096 + 32 * n) 32
  pub redist : ReadsBack s t Redist 0x200 0 32
  pub redist_extended : (n : ℕ) → n < 2 → ReadsBack s t Redist (0x204 + 4 * n) (1056 + 32 * n) 32
