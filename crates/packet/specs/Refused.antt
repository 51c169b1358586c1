-- The number of each reason for a refusal, and what a call tells: 0 where it is not refused.
use Rattle.std.specs.Prelude.{ℕ, Result, Ok, Err}
use Rattle.packet.specs.declared.refused.Refused.{Refused}
use Rattle.packet.specs.declared.refused.Refused.TheVariants.{Source, Length, Direct, OutOfRange, Size, NoMesh, NotThere, LogRoom, Codes, CutShort, Version, Record, Starts, ManyRows, RouteBits, FixedRoutes, OffMesh, Targets, KeyBits, TreeRoom, RecordRoom, FewerRoom, GroupsRoom}

abbrev pub number_of : Refused → ℕ
number_of Source = 1
number_of Length = 2
number_of Direct = 4
number_of OutOfRange = 6
number_of Size = 7
number_of NoMesh = 8
number_of NotThere = 9
number_of LogRoom = 10
number_of Codes = 11
number_of CutShort = 12
number_of Version = 13
number_of Record = 14
number_of Starts = 15
number_of ManyRows = 16
number_of RouteBits = 17
number_of FixedRoutes = 18
number_of OffMesh = 19
number_of Targets = 20
number_of KeyBits = 21
number_of TreeRoom = 26
number_of RecordRoom = 27
number_of FewerRoom = 28
number_of GroupsRoom = 29

abbrev pub told : {A : Type 0} → Result A Refused → ℕ
told (Ok _) = 0
told (Err r) = number_of r
