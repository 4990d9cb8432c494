-- What contracts see of the real objects.
use Rattle.std.specs.Prelude.{ℕ, Bool}

-- how often a real folder failed, each for all names, and whether its last call did
pub record FolderCounts : Type 0 where
  pub read_faults : ℕ
  pub write_faults : ℕ
  pub has_failed : Bool

-- how often a real console failed, and whether its last call did
pub record ConsoleCounts : Type 0 where
  pub take_faults : ℕ
  pub put_faults : ℕ
  pub has_failed : Bool

-- how often a real sink failed, and whether its last call did
pub record SinkCount : Type 0 where
  pub faults : ℕ
  pub has_failed : Bool
