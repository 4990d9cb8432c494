-- What the objects in memory are.
use Rattle.std.specs.Prelude.{ℕ, Bool, true, false, List, [], ◌∷◌, refl, Contains, String, Vec, string_bytes, bytes_eq, if◌then◌else◌, map, min, max}
use Rattle.std.specs.declared.alloc.Global.{Global}
use Rattle.std.specs.Coded.{Coded, code_by, coded×, coded_bool, coded_list, coded_ℕ}
use Rattle.std.specs.FinMap as finmap
use Rattle.hp_io.specs.Faults.{Faults, one_more}
use Rattle.hp_io.specs.Files.{Files}
use Rattle.hp_io.specs.Reads.{Reading}
use Rattle.hp_io.specs.declared.console.Event.{Event}

-- behind this many calls, the next is one of those that are to fail, which are numbered from 1
abbrev pub IsDue : List ℕ → ℕ → Type 0
IsDue fails calls = Contains fails (one_more calls)

-- a sink in memory
pub record SinkState : Type 0 where
  pub took : List ℕ
  pub fails : List ℕ
  pub calls : ℕ
  pub faults : ℕ
  -- the last call failed
  pub has_failed : Bool

-- the most that a take gives: the first of these numbers, where 0 counts as 1, and no more than there is room for
abbrev pub bound_of : List ℕ → ℕ → ℕ
bound_of [] room = room
bound_of (give ∷ gives) room = min (max give 1) room

-- a console in memory
pub record ConsoleState : Type 0 where
  pub left : List ℕ
  pub events : List Event
  -- the most that each of the next takes gives
  pub gives : List ℕ
  pub fails : List ℕ
  pub calls : ℕ
  pub take_faults : ℕ
  pub put_faults : ℕ
  -- the last call failed
  pub has_failed : Bool

-- a file with its name, seen as their bytes
abbrev pub entry_of : String Global × Vec ℕ Global → List ℕ × List ℕ
entry_of file = (string_bytes file.0, file.1.items)

-- what these files hold by name. Where two have one name, the first counts
abbrev pub files_of : List (String Global × Vec ℕ Global) → Files
files_of files = finmap.from_entries (map entry_of files)

-- the names of these files
abbrev pub names_of : List (String Global × Vec ℕ Global) → List (List ℕ)
names_of files = map (λ file. string_bytes file.0) files

-- a reading, seen as the bytes of the name and the limit
abbrev pub reading_of : String Global × ℕ → Reading
reading_of reading = (string_bytes reading.0, reading.1)

abbrev pub readings_of : List (String Global × ℕ) → List Reading
readings_of gave = map reading_of gave

-- a folder in memory
pub record FolderState : Type 0 where
  pub files : Files
  -- the reads that gave a file, oldest first
  pub gave : List Reading
  pub fails : List ℕ
  pub calls : ℕ
  pub read_faults : ℕ
  pub write_faults : ℕ
  -- the last call failed
  pub has_failed : Bool

-- files, and reads that gave one, are stored so
abbrev pub files_code : Coded Files
files_code = finmap.code (coded_list coded_ℕ) (coded_list coded_ℕ)

abbrev pub gave_code : Coded (List Reading)
gave_code = coded_list (coded× (coded_list coded_ℕ) coded_ℕ)

-- a folder is stored as the tuple of its fields
abbrev pub folder_code : Coded FolderState
folder_code =
    code_by (Files × (List Reading × (List ℕ × (ℕ × (ℕ × (ℕ × Bool))))))
    (coded× files_code (coded× gave_code (coded× (coded_list coded_ℕ) (coded× coded_ℕ (coded× coded_ℕ (coded× coded_ℕ coded_bool))))))
    (λ f. (f.files, (f.gave, (f.fails, (f.calls, (f.read_faults, (f.write_faults, f.has_failed)))))))
    (λ t. record { files = t.0; gave = t.1.0; fails = t.1.1.0; calls = t.1.1.1.0; read_faults = t.1.1.1.1.0; write_faults = t.1.1.1.1.1.0; has_failed = t.1.1.1.1.1.1 })
    (λ _. refl)

-- a folder in memory that fails nowhere but in reads of names that it does not hold
pub record CalmState : Type 0 where
  pub files : Files
  -- the names that it was made with
  pub made : List (List ℕ)
  pub gave : List Reading
  pub read_faults : ℕ
  pub has_failed : Bool

-- such a folder is stored as the tuple of its fields
abbrev pub calm_code : Coded CalmState
calm_code =
    code_by (Files × (List (List ℕ) × (List Reading × (ℕ × Bool))))
    (coded× files_code (coded× (coded_list (coded_list coded_ℕ)) (coded× gave_code (coded× coded_ℕ coded_bool))))
    (λ f. (f.files, (f.made, (f.gave, (f.read_faults, f.has_failed)))))
    (λ t. record { files = t.0; made = t.1.0; gave = t.1.1.0; read_faults = t.1.1.1.0; has_failed = t.1.1.1.1 })
    (λ _. refl)

-- the name is one of these
abbrev pub is_among : List (List ℕ) → List ℕ → Bool
is_among [] name = false
is_among (one ∷ names) name = if bytes_eq one name then true else is_among names name

-- its reads of the names that it was made with never fail, and failed reads of all others are counted together
abbrev pub calm_faults : CalmState → List ℕ → Faults
calm_faults folder name = record {
  count = if is_among folder.made name then 0 else folder.read_faults;
  is_last = folder.has_failed;
  is_calm = is_among folder.made name;
}
