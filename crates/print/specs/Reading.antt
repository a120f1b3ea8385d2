-- What is known of a reading that ended in each way.
-- Assumes nothing.
use Rattle.std.specs.Prelude.{ℕ, ◌<◌, ◌≡◌, List, length, Result, Ok, Err}
use Rattle.io.specs.Counts.{IsPrefixLen}
use Rattle.print.specs.declared.Trouble.{Trouble}
use Rattle.print.specs.declared.Trouble.TheVariants.{TooLong, Unreadable}

-- so many bytes stand at the start of the buffer; a whole file leaves room in it, and one that is too long does not
abbrev pub Read : Result ℕ Trouble → List ℕ → Type 0
Read (Ok size) buf = IsPrefixLen size buf × (size < length buf)
Read (Err (TooLong size)) buf = IsPrefixLen size buf × (size ≡ length buf)
Read (Err (Unreadable size)) buf = IsPrefixLen size buf
