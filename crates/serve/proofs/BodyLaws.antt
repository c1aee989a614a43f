-- A whole body: its request number chooses the layout. Assumes nothing.
use Prim.Native.Nat.{ℕ, zero, suc, ◌≤◌, ◌<◌}
use native.Mathlib.Omega.{arith}
use mathlib.Core.Path.{◌≡◌, refl, sym, ap, ◌∙◌}
use mathlib.Core.List.{List}
use lib.ListN.{get_or, get_or-eq_default}
use Rattle.std.specs.Prelude.{Result, Err}
use Rattle.rules.specs.Number.{Read, bad}
use Rattle.rules.specs.Request as rules
use Rattle.rules.specs.Request.{Request, layouts, unknown, parse}
use Rattle.rules.specs.Decision.{carried_out}
use Rattle.rules.specs.Serve.{decided, decision, serve}
use Rattle.number.specs.Reader.{rest_of}
use Rattle.number.specs.declared.reader.Reader.{Reader}
use Rattle.state.specs.declared.parts.Parts.{Parts}
use Rattle.answer.specs.declared.refusal.Refusal.{Refusal}
use Rattle.answer.specs.declared.refusal.Refusal.TheVariants.{Malformed}
use Rattle.answer.specs.Answer.{answer_of, WroteFrame}
use Rattle.body.specs.Layout.{After}
use Rattle.decide.specs.Carried.{ended, CarriedOut}
use Rattle.decide.specs.declared.outcome.Outcome.{Outcome}
use Rattle.decide.proofs.Deciding.{refuses, carried_as}
use Rattle.requests.specs.Layouts.{LayoutCarried}
use Rattle.serve.specs.Served.{BodyCarried, BodyServed}

-- none of the numbers from 1 to n
abbrev pub Apart : ℕ → ℕ → Type 0
Apart zero k = Unit {0}
Apart (suc n) k = Apart n k × (k ≡ suc n → ⊥)

above : (n k : ℕ) → Apart n k → 1 ≤ k → n < k
above zero k a h = h
above (suc n) k a h = let l = above n k a.0 h in let u = a.1 in omega arith

-- no request has this number
none_of : (n : ℕ) → Apart 18 n → get_or layouts n (unknown {A = Request}) ≡ unknown
unfolding layouts
none_of zero u = refl
none_of (suc n) u = get_or-eq_default layouts unknown {n = suc n} (above 18 (suc n) u (omega arith))

module _ {station : ℕ} {body : List ℕ} {p : Parts} where
  -- what is read as another body's request is decided as it is
  decided_as : {q : Parts} {r : Result Outcome Refusal} (x : Read Request) → x ≡ parse body → CarriedOut (λ σ. decided σ station x) p q r → BodyCarried station body p q r
  unfolding decision
  decided_as x e c = record { carried = carried_as (λ σ v k. ap (λ (y : Read Request). carried_out σ (decided σ station y)) (sym e)) c }

  -- no body: refused by 1
  pub malformed : bad ≡ parse body → BodyCarried station body p p (Err Malformed)
  unfolding decided carried_out
  malformed e = decided_as bad e (refuses Malformed (λ σ v k. refl))

  module _ {number : ℕ} {rest : Reader} (b : After body number rest) where
    -- the rest of the body is read by the layout of its number
    pub by_number_lem : {q : Parts} {r : Result Outcome Refusal} (n : ℕ) → number ≡ n → LayoutCarried (get_or layouts n unknown) station rest p q r → BodyCarried station body p q r
    by_number_lem n e x = decided_as _ (ap (λ (m : ℕ). get_or layouts m unknown (rest_of rest)) (sym e) ∙ b.parsed) x.carried

    pub by_none : Apart 18 number → BodyCarried station body p p (Err Malformed)
    unfolding unknown
    by_none u = malformed (ap (λ (l : rules.Reader Request). l (rest_of rest)) (sym (none_of number u)) ∙ b.parsed)

-- ---- the answer is written

module _ {station : ℕ} {body : List ℕ} {p q : Parts} {r : Result Outcome Refusal} (x : BodyCarried station body p q r) where
  pub answered : {d : Outcome} {out out' : List ℕ} {w : ℕ} → d ≡ ended r → WroteFrame (answer_of q.tokens.now q.dacls.now d.answer) out out' w
      → BodyServed station body p q out out' (record { written = w; change = d.change })
  unfolding serve
  answered e f = record {
    parts = rw e x.carried.parts;
    answer = λ σ v k. rw (x.carried.answer σ v k) at (rw e at f);
  }
