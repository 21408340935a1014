use Rattle.std.proofs.Common.{◌≡◌, ℕ, ◌&&◌, nat_lt, true, false, List, codes, map, refl, sym, ap, ◌∙◌, arith}
use Rattle.std.proofs.lemmas.Bool.Decides.{nat_tests}
use Rattle.juniper_http.specs.Accept.{Ranged, prefers_page, view_range, weight}
use Rattle.juniper_http.proofs.accept.wants_page.Goals as goal

both : (rs : List Ranged) (page own json : ℕ)
    → page ≡ weight rs (codes "text") (codes "html") → own ≡ weight rs (codes "application") (codes "graphql-response+json")
    → json ≡ weight rs (codes "application") (codes "json") → (nat_lt own page && nat_lt json page) ≡ prefers_page rs
both rs page own json p o j = rw p (rw o (rw j refl))

pub returns-then-weight_of-page : goal.returns-then-weight_of-page
returns-then-weight_of-page c =
    let page = c.weight_of-page.result in
    let own = c.weight_of.result in
    let json = c.weight_of-then-weight_of-page.result in
    let less : nat_lt own page ≡ true = grind (arith, nat_tests, c.if-weight_of-page.true) in
    sym (ap (λ b. b && nat_lt json page) less)
    ∙ both (map view_range c.args.ranges.now) page own json c.weight_of-page.ensures c.weight_of.ensures c.weight_of-then-weight_of-page.ensures

pub returns-else-weight_of-page : goal.returns-else-weight_of-page
returns-else-weight_of-page c =
    let page = c.weight_of-page.result in
    let own = c.weight_of.result in
    let json = weight (map view_range c.args.ranges.now) (codes "application") (codes "json") in
    let less : nat_lt own page ≡ false = grind (arith, nat_tests, c.if-weight_of-page.false) in
    less ∙ sym (ap (λ b. b && nat_lt json page) less) ∙ both (map view_range c.args.ranges.now) page own json c.weight_of-page.ensures c.weight_of.ensures refl
