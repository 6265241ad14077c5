-- Document 01's "Private Secure steps", each by its name and at its offsets: what there is to show of `PrivateStep` for it to be no
-- narrower than that list. proofs/Private.antt shows it (`private_list`).
use Rattle.std.specs.Prelude.{◌≡◌, Bool, true, false, ℕ, ◌+◌, ◌*◌, ◌%◌, ◌<◌, Err}
use Rattle.lists.specs.Word.{bit_at}
use Rattle.types.specs.declared.Frame.{Frame}
use Rattle.types.specs.declared.Frame.TheVariants.{Dist, Redist}
use Rattle.types.specs.declared.Shape.{Shape}
use Rattle.types.specs.declared.Side.TheVariants.{Secure}
use Rattle.types.specs.declared.Way.TheVariants.{Read, Write}
use Rattle.types.specs.declared.Access.{Access}
use Rattle.types.specs.declared.Refusal.{Refusal}
use Rattle.types.specs.declared.Event.TheVariants.{Wire, Activate, Deactivate}
use Rattle.meaning.specs.Interrupt.{Interrupt, shared, own, named}
use Rattle.meaning.specs.Cell.{owned}
use Rattle.meaning.specs.Rule.{Step, access, happens, act}
use Rattle.meaning.specs.Step.{Cells, answer}
use Rattle.separation.specs.Steps.{PrivateStep}

-- a write of the Secure side
abbrev pub secure_write : Frame → ℕ → ℕ → ℕ → Step
secure_write r width o v = access (record { frame = r; side = Secure; way = Write; width = width; offset = o; value = v })

-- v has no 1 at an implemented Non-secure interrupt; bit x is the interrupt `at x`
abbrev pub Spares : Cells → (ℕ → Interrupt) → ℕ → Type 0
Spares cells at v = (x : ℕ) → x < 32 → owned (cells (at x)) ≡ true → bit_at v x ≡ false

-- the implemented interrupts of a word are all Secure; field x is the interrupt `at x`
abbrev pub AllSecure : Cells → (ℕ → Interrupt) → Type 0
AllSecure cells at = (x : ℕ) → x < 16 → owned (cells (at x)) ≡ false

-- SET AND CLEAR WRITES with no 1 at an implemented Non-secure interrupt: a register with words at `base` and extended ones at `extended`
pub record SetOrClear (s : Shape) (base extended : ℕ) : Type 0 where
  pub dist : (cells : Cells) (n v : ℕ) → n < 32 → Spares cells (λ x. shared (32 * n + x)) v
      → PrivateStep s cells (secure_write Dist 4 (base + 4 * n) v)
  pub dist_extended : (cells : Cells) (n v : ℕ) → n < 32 → Spares cells (λ x. shared (4096 + 32 * n + x)) v
      → PrivateStep s cells (secure_write Dist 4 (extended + 4 * n) v)
  pub redist : (cells : Cells) (v : ℕ) → Spares cells (λ x. own x) v → PrivateStep s cells (secure_write Redist 4 base v)
  pub redist_extended : (cells : Cells) (n v : ℕ) → n < 2 → Spares cells (λ x. own (1056 + 32 * n + x)) v
      → PrivateStep s cells (secure_write Redist 4 (base + 4 + 4 * n) v)

-- FIELD WRITES to a word whose implemented interrupts are all Secure: ICFGR
pub record FieldWrites (s : Shape) : Type 0 where
  pub dist : (cells : Cells) (n v : ℕ) → n < 64 → AllSecure cells (λ x. shared (16 * n + x))
      → PrivateStep s cells (secure_write Dist 4 (0xC00 + 4 * n) v)
  pub dist_extended : (cells : Cells) (n v : ℕ) → n < 64 → AllSecure cells (λ x. shared (4096 + 16 * n + x))
      → PrivateStep s cells (secure_write Dist 4 (0x3000 + 4 * n) v)
  pub redist : (cells : Cells) (n v : ℕ) → n < 2 → AllSecure cells (λ x. own (16 * n + x))
      → PrivateStep s cells (secure_write Redist 4 (0xC00 + 4 * n) v)
  pub redist_extended : (cells : Cells) (n v : ℕ) → n < 4 → AllSecure cells (λ x. own (1056 + 16 * n + x))
      → PrivateStep s cells (secure_write Redist 4 (0xC08 + 4 * n) v)

-- MESSAGES naming no implemented Non-secure interrupt: the register at o, with either width
pub record MessageWrites (s : Shape) (o : ℕ) : Type 0 where
  pub word : (cells : Cells) (v : ℕ) → owned (cells (shared (v % 8192))) ≡ false → PrivateStep s cells (secure_write Dist 4 o v)
  pub half : (cells : Cells) (v : ℕ) → owned (cells (shared (v % 8192))) ≡ false → PrivateStep s cells (secure_write Dist 2 o v)

-- THE LIST
pub record PrivateList (s : Shape) : Type 0 where
  pub isenabler : SetOrClear s 0x100 0x1200
  pub icenabler : SetOrClear s 0x180 0x1400
  pub ispendr : SetOrClear s 0x200 0x1600
  pub icpendr : SetOrClear s 0x280 0x1800
  pub isactiver : SetOrClear s 0x300 0x1A00
  pub icactiver : SetOrClear s 0x380 0x1C00
  pub icfgr : FieldWrites s
  pub setspi_nsr : MessageWrites s 0x040
  pub clrspi_nsr : MessageWrites s 0x048
  pub setspi_sr : MessageWrites s 0x050
  pub clrspi_sr : MessageWrites s 0x058
  -- events of Secure interrupts, and wire events of missing ones
  pub wire : (cells : Cells) (m : ℕ) (level : Bool) → owned (cells (named m)) ≡ false → PrivateStep s cells (happens (Wire level) m)
  pub activation : (cells : Cells) (m : ℕ) → owned (cells (named m)) ≡ false → PrivateStep s cells (happens (Activate Secure) m)
  pub deactivation : (cells : Cells) (m : ℕ) → owned (cells (named m)) ≡ false → PrivateStep s cells (happens (Deactivate Secure) m)
  -- steps that can change no record: reads, refused steps, TYPER writes, and whatever else leaves every record as it is
  pub reads : (cells : Cells) (a : Access) → a.way ≡ Read → PrivateStep s cells (access a)
  pub refused : (cells : Cells) (q : Step) (r : Refusal) → answer s q cells ≡ Err r → PrivateStep s cells q
  pub typer : (cells : Cells) (v : ℕ) → PrivateStep s cells (secure_write Dist 4 0x004 v)
  pub unchanging : (cells : Cells) (q : Step) → ((i : Interrupt) → act s q i (cells i) ≡ cells i) → PrivateStep s cells q
