-- The version of the interface for C (this library's own).
use Rattle.std.specs.Prelude.{◌+◌, ◌*◌, ℕ}

-- the number of a version, which is made of a major number, a minor number and a patch number
abbrev pub version_number : ℕ → ℕ → ℕ → ℕ
version_number major minor patch = major * 65536 + minor * 256 + patch
