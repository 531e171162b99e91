-- The meanings of the source and the sink over files: what a file holds only where the file itself tells it.
use Rattle.std.specs.Prelude.{ℕ, Bool, List, [], ◌∷◌, Option, Some, None, Result, Ok, Err}
use Rattle.sopl_io.specs.declared.files.Target.{Target}
use Rattle.sopl_io.specs.declared.files.Target.TheVariants.{Output, Nowhere, Dropped, File}

-- a source: whether it has a file open, what is left of it where that is told, and how many calls failed
pub record FileInput : Type 0 where
  pub is_open : Bool
  pub left : Option (List ℕ)
  pub faults : ℕ

-- what is left: nothing where no file is open, and else what the file tells
abbrev pub left_of : {F : Type 0} → (F → Option (List ℕ)) → Option F → Option (List ℕ)
left_of remaining None = Some []
left_of remaining (Some file) = remaining file

-- where the pieces go: to standard output, nowhere yet, to be dropped, or to a file
pub data Destination : Type 0 where
  standard_output : Destination
  not_begun : Destination
  dropped : Destination
  to_file : Destination

-- a sink: where its pieces go, what its file holds where that is told, and how many calls failed
pub record FileOutput : Type 0 where
  pub destination : Destination
  pub held : Option (List ℕ)
  pub faults : ℕ

-- where a sink's target puts the pieces
abbrev pub destination_of : {F : Type 0} → Target F → Destination
destination_of Output = standard_output
destination_of Nowhere = not_begun
destination_of Dropped = dropped
destination_of (File file) = to_file

-- what a sink's target holds: told only where it is a file, by the file
abbrev pub held_by : {F : Type 0} → (F → Option (List ℕ)) → Target F → Option (List ℕ)
held_by contents Output = None
held_by contents Nowhere = None
held_by contents Dropped = None
held_by contents (File file) = contents file

-- where a file sink's pieces go after a `begin`: they are dropped where the name is empty
abbrev pub begun_destination : {T E : Type 0} → Result T E → List ℕ → Destination
begun_destination (Err error) name = not_begun
begun_destination (Ok value) [] = dropped
begun_destination (Ok value) (first ∷ later) = to_file
