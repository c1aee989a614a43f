-- The rest of a body, where it is in its request's layout and where it is not. Assumes nothing.
use Prim.Native.Nat.{ℕ}
use mathlib.Core.Path.{◌≡◌, refl, sym, ap, ◌∙◌}
use mathlib.Core.List.{List, []}
use Rattle.std.specs.Prelude.{Option, None, Some, Result, Err}
use Rattle.rules.specs.Number.{Read, got, bad, max32, read_number}
use Rattle.rules.specs.Request as rules
use Rattle.rules.specs.Request.{Request, follow, ◌>>=◌, u32, number_layout, evaluate_layout}
use Rattle.rules.specs.Decision.{carried_out}
use Rattle.rules.specs.Serve.{rule, decided}
use Rattle.number.specs.Reader.{rest_of, ReadOn}
use Rattle.number.specs.declared.reader.Reader.{Reader}
use Rattle.state.specs.declared.parts.Parts.{Parts}
use Rattle.answer.specs.declared.refusal.Refusal.{Refusal}
use Rattle.answer.specs.declared.refusal.Refusal.TheVariants.{Malformed}
use Rattle.body.specs.Layout.{whole, NumberRead}
use Rattle.decide.specs.Carried.{CarriedOut}
use Rattle.decide.specs.declared.outcome.Outcome.{Outcome}
use Rattle.decide.proofs.Deciding.{refuses, carried_as}
use Rattle.evaluate.specs.Evaluate.{asks}
use Rattle.requests.specs.Layouts.{LayoutCarried}

module _ {station : ℕ} {rest : Reader} {layout : rules.Reader Request} {p : Parts} where
  -- what is no body of its layout is refused by 1
  pub malformed : bad ≡ layout (rest_of rest) → {r : Result Outcome Refusal} → r ≡ Err Malformed → LayoutCarried layout station rest p p r
  unfolding decided carried_out
  malformed e t = rw t (record { carried = refuses Malformed (λ σ v k. rw (sym e)) })

  -- what is read is decided
  pub decides : {q : Parts} {r : Result Outcome Refusal} (x : Read Request) → x ≡ layout (rest_of rest) → CarriedOut (λ σ. decided σ station x) p q r
      → LayoutCarried layout station rest p q r
  decides x e c = record { carried = carried_as (λ σ v k. ap (λ (y : Read Request). carried_out σ (decided σ station y)) (sym e)) c }

  pub served : {q : Parts} {r : Result Outcome Refusal} (x : Request) → got x [] ≡ layout (rest_of rest) → CarriedOut (λ σ. rule σ station x) p q r → LayoutCarried layout station rest p q r
  unfolding decided
  served x e c = decides (got x []) e c

-- requests 1, 2, 11, 12 and 17
module _ {station : ℕ} {rest : Reader} (request : ℕ → Request) {p : Parts} {value : Option ℕ} (x : NumberRead rest value) where
  pub no_number : value ≡ None → {r : Result Outcome Refusal} → r ≡ Err Malformed → LayoutCarried (number_layout request) station rest p p r
  no_number none t = malformed (ap (whole request) (sym none) ∙ x.parsed request) t

  pub number_served : {n : ℕ} → value ≡ Some n → {q : Parts} {r : Result Outcome Refusal} → CarriedOut (λ σ. rule σ station (request n)) p q r → LayoutCarried (number_layout request) station rest p q r
  number_served {n} some c = served (request n) (ap (whole request) (sym some) ∙ x.parsed request) c

-- request 18: what stands behind the handle is read where it is evaluated
behind_handle : (bytes : List ℕ) → follow (read_number max32 bytes) asks ≡ evaluate_layout bytes
unfolding evaluate_layout ◌>>=◌ follow u32 asks
behind_handle bytes = refl

module _ {station : ℕ} {rest later : Reader} {p : Parts} {handle : Option ℕ} (x : ReadOn (read_number max32) max32 rest later handle) where
  pub handle_not_read : handle ≡ None → {r : Result Outcome Refusal} → r ≡ Err Malformed → LayoutCarried evaluate_layout station rest p p r
  unfolding follow
  handle_not_read none t = malformed (ap (λ (y : Read ℕ). follow y asks) (rw none at x.means) ∙ behind_handle (rest_of rest)) t

  pub evaluate_served : {n : ℕ} → handle ≡ Some n → {q : Parts} {r : Result Outcome Refusal} → CarriedOut (λ σ. decided σ station (asks n (rest_of later))) p q r
      → LayoutCarried evaluate_layout station rest p q r
  unfolding follow
  evaluate_served {n} some c = decides (asks n (rest_of later)) (ap (λ (y : Read ℕ). follow y asks) (rw some at x.means) ∙ behind_handle (rest_of rest)) c
