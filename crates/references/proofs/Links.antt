-- The tests of numbers and references, with what the code has at each return. Assumes nothing.
use mathlib.Core.Path.{◌≡◌, sym, ◌∙◌}
use mathlib.Core.Bool.{Bool, ◌&&◌}
use mathlib.Core.List.{List, ◌++◌, map}
use Prim.Native.Nat.{ℕ, ◌+◌, ◌-◌}
use native.Mathlib.Omega.{arith}
use lib.Dec.{leb}
use lib.ListN.{take, drop}
use Rattle.handle.specs.declared.Handle as code
use Rattle.handle.specs.Meaning.{handle_of}
use Rattle.rules.specs.Basic.{all}
use Rattle.rules.specs.Number.{max32}
use Rattle.rules.specs.State.{token_slots, handle_slots, station_count, handle_number, handle_token}
use Rattle.rules.specs.Memory.{token_words, station_words, elevated_word, filtered_word, next_token, next_handle, stations_in, pairs_in}
use Rattle.lists.specs.Tests.{station_references, is_given, is_apart, refs_test}
use Rattle.references.specs.Tests.{column_by, first_word, other_word, token_in, client_in, pair_column, kept, nonzero, Front, Referred, fields_test, clients_test, pairs_test, numbers_test, links_test}
use Rattle.references.specs.Meaning as Meaning
use Rattle.references.specs.Meaning.{token_of, fields_of}
use Rattle.lists.proofs.Truth.{all_map}
use Rattle.references.proofs.Lists.{kept_map}

pub at_numbers : (ns os hs rs items : List ℕ) (h nt nh : ℕ) {a b r q : Bool}
    → a ≡ all (is_given nt ns) ns → b ≡ all (is_given nh hs) hs → r ≡ refs_test ns rs → q ≡ all (is_apart (take (h + station_count - h) (drop h items))) os
    → ((leb 1 nt && a) && (leb 1 nh && b) && leb nh max32 && r && q) ≡ numbers_test ns os hs rs (take station_count (drop h items)) nt nh
unfolding numbers_test
at_numbers ns os hs rs items h nt nh ea eb er eq = let d : h + station_count - h ≡ station_count = omega arith in cc

pub at_links : (ts : List ℕ) (hs : List code.Handle) (cs : List ℕ) {ns os hn rs : List ℕ} {n o h m : ℕ} {f r q p : Bool}
    → r ≡ numbers_test (take n ns) (take o os) (take h hn) (take (m + station_references) rs) (take station_count (drop m rs)) (next_token cs) (next_handle cs)
    → Front token_slots (nonzero (column_by first_word token_words token_slots ts)) n ns → Front token_slots (nonzero (column_by other_word token_words token_slots ts)) o os
    → Front handle_slots (kept Meaning.number_of Meaning.number_of hs) h hn
    → Referred (kept Meaning.number_of token_of hs ++ pair_column elevated_word (pairs_in cs) ++ pair_column filtered_word (pairs_in cs)) (column_by token_in station_words station_count (stations_in cs)) (column_by client_in station_words station_count (stations_in cs)) m rs
    → f ≡ all fields_of hs → q ≡ clients_test ts (stations_in cs) → p ≡ pairs_test ts (pairs_in cs) → (f && r && q && p) ≡ links_test ts (map handle_of hs) cs
unfolding links_test handle_number handle_token
at_links ts hs cs {hn = hn} {rs = rs} {h = h} er en eo eh ek ef eq ep =
    let z : all fields_of hs ≡ all fields_test (map handle_of hs) = sym (all_map handle_of fields_test hs) in
    let u : take h hn ≡ kept handle_number handle_number (map handle_of hs) = eh.front ∙ sym (kept_map handle_number handle_number handle_of hs) in
    let v : kept Meaning.number_of token_of hs ≡ kept handle_number handle_token (map handle_of hs) = sym (kept_map handle_number handle_token handle_of hs) in
    cc (en.front, eo.front, ek.front, ek.primaries)
