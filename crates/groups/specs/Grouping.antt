-- What is left in the room where some keys are to be looked up in a table.
use Rattle.std.specs.Prelude.{◌&&◌, cond, List, ℕ, length}
use Rattle.tables.specs.Rows.{Entry}
use Rattle.groups.specs.Groups.{marks_of, room_after}
use Rattle.groups.specs.Pays.{worth, pays}

-- Where they pay, the groups that the keys ask for. Else the room stays as it came.
abbrev pub groups_left : List ℕ → List Entry → List ℕ → List ℕ
groups_left keys rows room =
    cond (worth (length keys) (length rows) && pays (length keys) (marks_of keys) rows) (room_after (marks_of keys) rows room) room
