-- A body is served: read in its layout, decided by its rule, carried out. Assumes nothing.
use Rattle.std.specs.Prelude.{ℕ, false, List, []}
use Rattle.rules.specs.Number.{Read, got, bad}
use Rattle.rules.specs.Refusal.{malformed}
use Rattle.rules.specs.State.{State}
use Rattle.rules.specs.Request.{Request, parse}
use Rattle.rules.specs.Decision.{Decision, need◌else◌then◌, success, Served, carried_out}
use Rattle.rules.specs.OpenClose as OpenClose
use Rattle.rules.specs.Create as Create
use Rattle.rules.specs.Query as Query
use Rattle.rules.specs.AdjustPrivileges as AdjustPrivileges
use Rattle.rules.specs.AdjustGroups as AdjustGroups
use Rattle.rules.specs.AdjustScope as AdjustScope
use Rattle.rules.specs.AdjustDefaults as AdjustDefaults
use Rattle.rules.specs.Duplicate as Duplicate
use Rattle.rules.specs.Restrict as Restrict
use Rattle.rules.specs.Install as Install
use Rattle.rules.specs.Impersonate as Impersonate
use Rattle.rules.specs.Link as Link
use Rattle.rules.specs.Evaluate as Evaluate

unfoldable pub rule : State → ℕ → Request → Decision
rule σ s (Request.open_own mask) = OpenClose.open_own σ s mask
rule σ s (Request.close n) = OpenClose.close σ s n
rule σ s (Request.create user session integrity present by_default gs) = Create.create σ s user session integrity present by_default gs
rule σ s (Request.query n class capacity) = Query.query σ s n class capacity
rule σ s (Request.privileges n es) = AdjustPrivileges.adjust σ s n es
rule σ s (Request.groups n es) = AdjustGroups.adjust σ s n es
rule σ s (Request.scope n v) = AdjustScope.scope σ s n v
rule σ s (Request.defaults n owner group flag bytes) = AdjustDefaults.adjust σ s n owner group flag bytes
rule σ s (Request.duplicate n type level mask) = Duplicate.duplicate σ s n type level mask
rule σ s (Request.restrict n mark removed deny sids) = Restrict.restrict σ s n mark removed deny sids
rule σ s (Request.install n) = Install.install σ s n
rule σ s (Request.impersonate n) = Impersonate.impersonate σ s n
rule σ s Request.revert = Impersonate.revert σ s
rule σ s (Request.link n m session) = Link.link σ s n m session
rule σ s (Request.linked n) = Link.get_linked σ s n
rule σ s (Request.evaluate n c) = Evaluate.evaluate σ s n c

-- a body that is not in a layout fails the first check
unfoldable pub decided : State → ℕ → Read Request → Decision
decided σ s bad = need false else malformed then success σ []
decided σ s (got r bytes) = rule σ s r

unfoldable pub decision : State → ℕ → List ℕ → Decision
decision σ s body = decided σ s (parse body)

unfoldable pub serve : State → ℕ → List ℕ → Served
serve σ s body = carried_out σ (decision σ s body)
