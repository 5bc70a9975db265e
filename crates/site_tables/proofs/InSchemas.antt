-- The tables of a version stand in its schema.
use Rattle.std.proofs.Common.{◌≡◌, ◌⊎◌, inl, inr, List, [], ◌∷◌, ◌++◌, refl, sym, ap, ◌∙◌, append_assoc}
use Rattle.std.specs.List.{AllByRecursion}
use Rattle.sqlite_rules.specs.Lists.{Has as InList}
use Rattle.site_rows.specs.declared.tables.Table.{«Table» as SiteTable}
use Rattle.site_rows.specs.declared.tables.Table.TheVariants.{Store, Site, Address, Event, Part, Pack, Packed, Quarantine, Outbox, Seen, Parent, Recall}
use Rattle.site_rows.specs.declared.tables.Version.{Version}
use Rattle.site_rows.specs.declared.tables.Version.TheVariants.{First, Second}
use Rattle.site_tables.specs.Tables.{Has, before_messages, declared, schema_under, told_under}

pub in_schema : (v : Version) (t : SiteTable) → Has v t → InList (schema_under v).tables (declared t)
in_schema First Store there = inl refl
in_schema First Site there = inr (inl refl)
in_schema First Address there = inr (inr (inl refl))
in_schema First Event there = inr (inr (inr (inl refl)))
in_schema First Part there = inr (inr (inr (inr (inl refl))))
in_schema First Quarantine there = inr (inr (inr (inr (inr (inl refl)))))
in_schema First Outbox there = inr (inr (inr (inr (inr (inr (inl refl))))))
in_schema First Seen there = inr (inr (inr (inr (inr (inr (inr (inl refl)))))))
in_schema First Parent there = inr (inr (inr (inr (inr (inr (inr (inr (inl refl))))))))
in_schema First Recall there = inr (inr (inr (inr (inr (inr (inr (inr (inr (inl refl)))))))))
in_schema First Pack there = absurd there
in_schema First Packed there = absurd there
in_schema Second Store there = inl refl
in_schema Second Site there = inr (inl refl)
in_schema Second Address there = inr (inr (inl refl))
in_schema Second Event there = inr (inr (inr (inl refl)))
in_schema Second Part there = inr (inr (inr (inr (inl refl))))
in_schema Second Quarantine there = inr (inr (inr (inr (inr (inl refl)))))
in_schema Second Outbox there = inr (inr (inr (inr (inr (inr (inl refl))))))
in_schema Second Seen there = inr (inr (inr (inr (inr (inr (inr (inl refl)))))))
in_schema Second Parent there = inr (inr (inr (inr (inr (inr (inr (inr (inl refl))))))))
in_schema Second Recall there = inr (inr (inr (inr (inr (inr (inr (inr (inr (inl refl)))))))))
in_schema Second Pack there = inr (inr (inr (inr (inr (inr (inr (inr (inr (inr (inl refl))))))))))
in_schema Second Packed there = inr (inr (inr (inr (inr (inr (inr (inr (inr (inr (inr (inl refl)))))))))))

-- the version has the table, or not
pub has_or_not : (v : Version) (t : SiteTable) → Has v t ⊎ (Has v t → ⊥)
has_or_not Second t = inl tt
has_or_not First Pack = inr (λ none. none)
has_or_not First Packed = inr (λ none. none)
has_or_not First Store = inl tt
has_or_not First Site = inl tt
has_or_not First Address = inl tt
has_or_not First Event = inl tt
has_or_not First Part = inl tt
has_or_not First Quarantine = inl tt
has_or_not First Outbox = inl tt
has_or_not First Seen = inl tt
has_or_not First Parent = inl tt
has_or_not First Recall = inl tt

-- both versions have the tables of sites, of events, of messages and of recalls
pub has_sites : (v : Version) → AllByRecursion (Has v) (Store ∷ Site ∷ Address ∷ [])
has_sites First = (tt, (tt, (tt, tt)))
has_sites Second = (tt, (tt, (tt, tt)))

pub has_events : (v : Version) → AllByRecursion (Has v) (Event ∷ Part ∷ [])
has_events First = (tt, (tt, tt))
has_events Second = (tt, (tt, tt))

pub has_messages : (v : Version) → AllByRecursion (Has v) (Quarantine ∷ Outbox ∷ Seen ∷ [])
has_messages First = (tt, (tt, (tt, tt)))
has_messages Second = (tt, (tt, (tt, tt)))

pub has_recalls : (v : Version) → AllByRecursion (Has v) (Parent ∷ Recall ∷ [])
has_recalls First = (tt, (tt, tt))
has_recalls Second = (tt, (tt, tt))

-- what is read before the messages, and of them, and then
pub told_from : (v : Version) (more rest : List SiteTable) → more ++ rest ≡ Quarantine ∷ Outbox ∷ Seen ∷ Parent ∷ Recall ∷ [] → told_under v ≡ (before_messages v ++ more) ++ rest
told_from v more rest is = ap (λ xs. before_messages v ++ xs) (sym is) ∙ sym (append_assoc (before_messages v) more rest)

pub told_past : (v : Version) (more then_more rest : List SiteTable) → more ++ (then_more ++ rest) ≡ Quarantine ∷ Outbox ∷ Seen ∷ Parent ∷ Recall ∷ [] → told_under v ≡ ((before_messages v ++ more) ++ then_more) ++ rest
told_past v more then_more rest is = told_from v more (then_more ++ rest) is ∙ sym (append_assoc (before_messages v ++ more) then_more rest)
