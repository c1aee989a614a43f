-- Where a token's head keeps what, by name: the words of Memory.head. Assumes nothing.
use Rattle.std.specs.Prelude.{ℕ}

abbrev pub number : ℕ
number = 0

abbrev pub modified : ℕ
modified = 1

abbrev pub session : ℕ
session = 2

abbrev pub user : ℕ
user = 3

abbrev pub type : ℕ
type = 4

abbrev pub level : ℕ
level = 5

abbrev pub elevation : ℕ
elevation = 6

abbrev pub write_restricted : ℕ
write_restricted = 7

abbrev pub user_deny_only : ℕ
user_deny_only = 8

abbrev pub owner : ℕ
owner = 9

abbrev pub primary_group : ℕ
primary_group = 10

abbrev pub scope : ℕ
scope = 11

abbrev pub integrity : ℕ
integrity = 12

abbrev pub present : ℕ
present = 13

abbrev pub enabled : ℕ
enabled = 14

abbrev pub by_default : ℕ
by_default = 15

abbrev pub used : ℕ
used = 16

abbrev pub group_count : ℕ
group_count = 17

abbrev pub restricting_count : ℕ
restricting_count = 18

abbrev pub dacl_length : ℕ
dacl_length = 19

abbrev pub root : ℕ
root = 20
