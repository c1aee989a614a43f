-- Putting privileges back by the report of request 5 (document 02, W13): in any list of calls, the entries made from a report undo the enabling
-- and disabling that it reports, as long as no other success of 5 was on that token. Assumes nothing.
use Rattle.std.specs.Prelude.{ℕ, ◌≤◌, ◌≡◌, Bool, true, ◌||◌, ◌⊎◌, List, [], ◌∷◌, ◌++◌, map, eqb, length, if◌then◌else◌}
use Rattle.rules.specs.Basic.{all, distinct}
use Rattle.rules.specs.Number.{Read, got, bad, encode_all, max32}
use Rattle.rules.specs.Bits.{has}
use Rattle.rules.specs.Mask.{permits, adjust_privileges}
use Rattle.rules.specs.Privileges.{Privileges}
use Rattle.rules.specs.Token.{Token}
use Rattle.rules.specs.Table.{live}
use Rattle.rules.specs.Handle.{Handle}
use Rattle.rules.specs.State.{token_of, find_handle}
use Rattle.rules.specs.Entry.{Entry, key_of}
use Rattle.rules.specs.Frame.{max_body}
use Rattle.rules.specs.Valid.{is_byte}
use Rattle.rules.specs.Request as Request
use Rattle.rules.specs.Request.{Reader, ◌>>=◌, end, u32, u64, parse}
use Rattle.rules.specs.Ladder.{status}
use Rattle.rules.specs.Run.{Serving, served_by, Outcome, serves}
use Rattle.rules.specs.Growth.{Mem, Live}

-- the privilege words but used: present, enabled, default
unfoldable pub but_used : Privileges → List ℕ
but_used p = p.present ∷ p.enabled ∷ p.by_default ∷ []

-- ---- request 5 on a token

-- the body is request 5 with these entries, by a live handle of its station on token n that has the right
pub record Asks (x : Serving) (n : ℕ) (es : List Entry) : Type 0 where
  pub number : ℕ
  pub handle : Handle
  pub bytes : List ℕ
  pub request : parse x.body ≡ got (Request.privileges number es) bytes
  pub found : find_handle x.before x.station number ≡ live handle
  pub token : handle.token ≡ n
  pub permitted : permits handle.mask adjust_privileges ≡ true

-- it is a success of request 5 on token n
pub record Adjusts (x : Serving) (n : ℕ) : Type 0 where
  pub entries : List Entry
  pub asks : Asks x n entries
  pub succeeds : status (served_by x) ≡ 0

-- of a body that is served: nothing else changes present, enabled and default privileges of a live token
unfoldable pub PrivilegesKept : Serving → Type 0
PrivilegesKept x =
    (t u : Token) → Live t x.before → Live u (served_by x).state → u.number ≡ t.number
    → (but_used u.privileges ≡ but_used t.privileges) ⊎ Adjusts x t.number

-- ---- the entries made from a report

-- an answer's status, what was present, what was enabled
unfoldable pub report_layout : Reader ℕ
report_layout = do
  status ← u32
  present ← u64
  enabled ← u64
  end enabled

-- the enabled word of a report; 0 of an answer that is none
unfoldable pub word_of : Read ℕ → ℕ
word_of bad = 0
word_of (got w bytes) = w

unfoldable pub was_enabled : List ℕ → ℕ
was_enabled answer = word_of (report_layout answer)

-- enable (2) where the word has the privilege, else disable (0)
unfoldable pub undoing : ℕ → Entry → Entry
undoing w e = record { key = e.key; value = if has e.key w then 2 else 0 }

-- one entry for each privilege that the request named, in its order
unfoldable pub put_back : List Entry → List ℕ → List Entry
put_back es answer = map (undoing (was_enabled answer)) es

-- the same entries, each once, in any order
pub record Reordered (es fs : List Entry) : Type 0 where
  pub only : (e : Entry) → Mem e fs → Mem e es
  pub each : (e : Entry) → Mem e es → Mem e fs
  pub once : distinct (map key_of fs) ≡ true

-- ---- the request that has them

unfoldable pub pairs : List Entry → List ℕ
pairs [] = []
pairs (e ∷ es) = e.key ∷ e.value ∷ pairs es

-- request 5's body, by handle n
unfoldable pub written : ℕ → List Entry → List ℕ
written n es = encode_all (5 ∷ n ∷ length es ∷ pairs es)

-- it can be sent: a body that is read as this request, in bytes, and that a frame has room for
pub record CanSend (n : ℕ) (es : List Entry) : Type 0 where
  pub request : parse (written n es) ≡ got (Request.privileges n es) []
  pub bytes : all is_byte (written n es) ≡ true
  pub some : 1 ≤ length (written n es)
  pub fits : length (written n es) ≤ max_body

-- ---- the claim, of what the streams' bytes come to (Run.outcomes)

-- enable or disable
unfoldable pub switches : Entry → Bool
switches e = eqb e.value 0 || eqb e.value 2

-- x is a success of request 5 on token n, with enable and disable entries only
pub record Switches (x : Serving) (n : ℕ) (es : List Entry) : Type 0 where
  pub asks : Asks x n es
  pub only : all switches es ≡ true
  pub succeeds : status (served_by x) ≡ 0

-- y succeeds, and after it token n's privilege words but used are those before x
pub record Restores (x y : Serving) (n : ℕ) : Type 0 where
  pub succeeds : status (served_by y) ≡ 0
  pub live : Live (token_of (served_by y).state n) (served_by y).state
  pub words : but_used (token_of (served_by y).state n).privileges ≡ but_used (token_of x.before n).privileges

-- y asks on token n for the entries made from x's answer, in any order, by any live handle of any station that has the right, and between them no
-- success of 5 was on token n
unfoldable pub PutsBack : List Outcome → Type 0
PutsBack os =
    (earlier between later : List Outcome) (x y : Serving) (n : ℕ) (es fs : List Entry)
    → os ≡ earlier ++ (serves x ∷ (between ++ (serves y ∷ later)))
    → Switches x n es
    → ((z : Serving) → Mem (serves z) between → Adjusts z n → ⊥)
    → Reordered (put_back es (served_by x).answer) fs
    → Asks y n fs
    → Restores x y n

-- and these entries can always be sent, by a handle of any number
unfoldable pub CanPutBack : Serving → Type 0
CanPutBack x =
    (n : ℕ) (es fs : List Entry) → Switches x n es → Reordered (put_back es (served_by x).answer) fs → (h : ℕ) → h ≤ max32 → CanSend h fs
