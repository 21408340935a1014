-- What stands at the names once the demo's types are registered.
use Rattle.std.proofs.Common.{◌≡◌, true, false, bytes_eq, codes, List, [], ◌∷◌, ◌++◌, map, refl, subst, sym, inl, inr}
use Rattle.std.proofs.lemmas.Bool.{cases_Bool}
use Rattle.graphql_spec.specs.Fields.{entry_in, or_else, typename_field}
use Rattle.graphql_spec.specs.Schema.{Entry, plain_field, plain_input}
use Rattle.graphql_spec.specs.Shown.{Name}
use Rattle.graphql_spec.specs.Types.{innermost, nullable}
use Rattle.graphql_spec.proofs.Lists.{same_true}
use Rattle.juniper_words.specs.Data.{collide, nowhere, with_all}
use Rattle.juniper_meta.specs.MetaView.{entry_at, is_placeholder}
use Rattle.juniper_registry.specs.Entries.{Table, awaited}
use Rattle.juniper_demo_server.specs.DemoTypes.{demo_declarations}

-- the types, and placeholders of the scalars that they refer to
abbrev pub demo_types : List Entry
demo_types = map (λ d. entry_at d.0 d.1) demo_declarations ++ awaited (codes "ID") ∷ awaited (codes "String") ∷ awaited (codes "Int") ∷ []

abbrev gathered : Table
gathered = with_all demo_declarations nowhere

-- each name is one of these, or another
pub gathered_at : (n : Name) → gathered n ≡ entry_in demo_types n
unfolding entry_in or_else typename_field plain_field plain_input innermost nullable
gathered_at n = elim (cases_Bool (bytes_eq n (codes "Query"))) [
  | inl e ↦ at (codes "Query") e refl
  | inr a ↦ elim (cases_Bool (bytes_eq n (codes "Mutation"))) [
    | inl e ↦ at (codes "Mutation") e refl
    | inr b ↦ elim (cases_Bool (bytes_eq n (codes "Tally"))) [
      | inl e ↦ at (codes "Tally") e refl
      | inr d ↦ elim (cases_Bool (bytes_eq n (codes "Character"))) [
        | inl e ↦ at (codes "Character") e refl
        | inr f ↦ elim (cases_Bool (bytes_eq n (codes "Droid"))) [
          | inl e ↦ at (codes "Droid") e refl
          | inr g ↦ elim (cases_Bool (bytes_eq n (codes "Human"))) [
            | inl e ↦ at (codes "Human") e refl
            | inr h ↦ elim (cases_Bool (bytes_eq n (codes "Cell"))) [
              | inl e ↦ at (codes "Cell") e refl
              | inr i ↦ elim (cases_Bool (bytes_eq n (codes "Episode"))) [
                | inl e ↦ at (codes "Episode") e refl
                | inr j ↦ elim (cases_Bool (bytes_eq n (codes "ID"))) [
                  | inl e ↦ at (codes "ID") e refl
                  | inr k ↦ elim (cases_Bool (bytes_eq n (codes "String"))) [
                    | inl e ↦ at (codes "String") e refl
                    | inr l ↦ elim (cases_Bool (bytes_eq n (codes "Int"))) [
                      | inl e ↦ at (codes "Int") e refl
                      | inr m ↦ rw (a, b, d, f, g, h, i, j, k, l, m) refl
                    ]
                  ]
                ]
              ]
            ]
          ]
        ]
      ]
    ]
  ]
]
  where
    at : (k : Name) → bytes_eq n k ≡ true → gathered k ≡ entry_in demo_types k → gathered n ≡ entry_in demo_types n
    at k is same = subst (λ m. gathered m ≡ entry_in demo_types m) (sym (same_true n k is)) same

-- no two of them have one name
pub apart : collide demo_declarations nowhere ≡ false
unfolding or_else typename_field plain_field plain_input innermost nullable is_placeholder
apart = refl
