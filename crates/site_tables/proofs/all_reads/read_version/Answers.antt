use Rattle.std.proofs.Common.{◌≡◌, [], ◌∷◌, Err, rules, refl}
use Rattle.sqlite.specs.Held.{state}
use Rattle.sqlite.proofs.Callers.{unchanged_then}
use Rattle.site_rows.specs.declared.tables.Table.TheVariants.{Store, Site, Address, Event, Part, Pack, Packed, Quarantine, Outbox, Seen, Parent, Recall}
use Rattle.site_tables.specs.Tables.{packs_under}
use Rattle.site_tables.proofs.BadReads.{all_listed, clean_before, listed_before, packs_read, read_before, read_next, fails_since}
use Rattle.site_tables.proofs.all_reads.read_version.Goals as goal

pub returns-clause-rows : goal.returns-clause-rows
returns-clause-rows g c clean =
    let last = clean_before c.read_recalls.ensures.crash clean in
    let fourth = clean_before c.read_messages.ensures.crash last in
    let third = clean_before c.read_packs.ensures.crash fourth in
    let second = clean_before c.read_events.ensures.crash third in
    let sites = c.in_ok-sites.ensures.same second in
    let events = unchanged_then _ _ _ sites (c.in_ok-events.ensures.same third) in
    let packs = unchanged_then _ _ _ events (c.in_ok-packs.ensures.same fourth (c.in_ok-events.ensures.same third).0.is_open) in
    let messages = unchanged_then _ _ _ packs (c.in_ok-messages.ensures.same last) in
    all_listed c.args.version _ (state g.S.Store c.args.conn.now).now.trees (
      c.in_ok-sites.ensures.store second,
      (
        c.in_ok-sites.ensures.site second,
        (
          c.in_ok-sites.ensures.address second,
          (
            listed_before Event sites (c.in_ok-events.ensures.event third),
            (
              listed_before Part sites (c.in_ok-events.ensures.part third),
              (
                listed_before Quarantine packs (c.in_ok-messages.ensures.quarantine last),
                (
                  listed_before Outbox packs (c.in_ok-messages.ensures.outbox last),
                  (
                    listed_before Seen packs (c.in_ok-messages.ensures.seen last),
                    (
                      listed_before Parent messages (c.in_ok-recalls.ensures.parent clean),
                      (listed_before Recall messages (c.in_ok-recalls.ensures.recall clean), tt),
                    ),
                  ),
                ),
              ),
            ),
          ),
        ),
      ),
    )
    (λ is. (listed_before Pack events (c.in_ok-packs.ensures.pack fourth is), (listed_before Packed events (c.in_ok-packs.ensures.packed fourth is), tt)))
    (λ is. let none = c.in_ok-packs.ensures.none is in (rw none.0 refl, rw none.1 refl))

pub returns-in_err-events-clause-cause : goal.returns-in_err-events-clause-cause
returns-in_err-events-clause-cause g c clean =
    let bad : c.from_residual-in_err-events.result ≡ Err c.in_err-events.field-0.0 = search rules in
    let none = read_before [] (state g.S.Store c.args.conn.now) tt in
    let early = clean_before c.read_events.ensures.crash clean in
    let sites = read_next none (Store ∷ Site ∷ Address ∷ []) (c.in_ok-sites.ensures.same early) c.read_sites.ensures.crash
    ((_, c.in_ok-sites.ensures.store early), ((_, c.in_ok-sites.ensures.site early), ((_, c.in_ok-sites.ensures.address early), tt))) in
    fails_since bad sites (c.in_err-events.ensures.cause clean sites.read)

pub returns-in_err-packs-clause-cause : goal.returns-in_err-packs-clause-cause
returns-in_err-packs-clause-cause g c clean =
    let bad : c.from_residual-in_err-packs.result ≡ Err c.in_err-packs.field-0.0 = search rules in
    let none = read_before [] (state g.S.Store c.args.conn.now) tt in
    let later = clean_before c.read_packs.ensures.crash clean in
    let early = clean_before c.read_events.ensures.crash later in
    let sites = read_next none (Store ∷ Site ∷ Address ∷ []) (c.in_ok-sites.ensures.same early) c.read_sites.ensures.crash
    ((_, c.in_ok-sites.ensures.store early), ((_, c.in_ok-sites.ensures.site early), ((_, c.in_ok-sites.ensures.address early), tt))) in
    let events = read_next sites (Event ∷ Part ∷ []) (c.in_ok-events.ensures.same later) c.read_events.ensures.crash
    ((_, c.in_ok-events.ensures.event later), ((_, c.in_ok-events.ensures.part later), tt)) in
    fails_since bad events (c.in_err-packs.ensures.cause clean events.read)

pub returns-in_err-messages-clause-cause : goal.returns-in_err-messages-clause-cause
returns-in_err-messages-clause-cause g c clean =
    let bad : c.from_residual-in_err-messages.result ≡ Err c.in_err-messages.field-0.0 = search rules in
    let none = read_before [] (state g.S.Store c.args.conn.now) tt in
    let third = clean_before c.read_messages.ensures.crash clean in
    let second = clean_before c.read_packs.ensures.crash third in
    let early = clean_before c.read_events.ensures.crash second in
    let sites = read_next none (Store ∷ Site ∷ Address ∷ []) (c.in_ok-sites.ensures.same early) c.read_sites.ensures.crash
    ((_, c.in_ok-sites.ensures.store early), ((_, c.in_ok-sites.ensures.site early), ((_, c.in_ok-sites.ensures.address early), tt))) in
    let events = read_next sites (Event ∷ Part ∷ []) (c.in_ok-events.ensures.same second) c.read_events.ensures.crash
    ((_, c.in_ok-events.ensures.event second), ((_, c.in_ok-events.ensures.part second), tt)) in
    let packs = read_next events (packs_under c.args.version) (c.in_ok-packs.ensures.same third (c.in_ok-events.ensures.same second).0.is_open) c.read_packs.ensures.crash
    (packs_read c.args.version (state g.S.Store c.read_events.new.conn).now.trees (λ is. (_, c.in_ok-packs.ensures.pack third is)) (λ is. (_, c.in_ok-packs.ensures.packed third is))) in
    fails_since bad packs (c.in_err-messages.ensures.cause clean packs.read)

pub returns-in_err-recalls-clause-cause : goal.returns-in_err-recalls-clause-cause
returns-in_err-recalls-clause-cause g c clean =
    let bad : c.from_residual-in_err-recalls.result ≡ Err c.in_err-recalls.field-0.0 = search rules in
    let none = read_before [] (state g.S.Store c.args.conn.now) tt in
    let fourth = clean_before c.read_recalls.ensures.crash clean in
    let third = clean_before c.read_messages.ensures.crash fourth in
    let second = clean_before c.read_packs.ensures.crash third in
    let early = clean_before c.read_events.ensures.crash second in
    let sites = read_next none (Store ∷ Site ∷ Address ∷ []) (c.in_ok-sites.ensures.same early) c.read_sites.ensures.crash
    ((_, c.in_ok-sites.ensures.store early), ((_, c.in_ok-sites.ensures.site early), ((_, c.in_ok-sites.ensures.address early), tt))) in
    let events = read_next sites (Event ∷ Part ∷ []) (c.in_ok-events.ensures.same second) c.read_events.ensures.crash
    ((_, c.in_ok-events.ensures.event second), ((_, c.in_ok-events.ensures.part second), tt)) in
    let packs = read_next events (packs_under c.args.version) (c.in_ok-packs.ensures.same third (c.in_ok-events.ensures.same second).0.is_open) c.read_packs.ensures.crash
    (packs_read c.args.version (state g.S.Store c.read_events.new.conn).now.trees (λ is. (_, c.in_ok-packs.ensures.pack third is)) (λ is. (_, c.in_ok-packs.ensures.packed third is))) in
    let messages = read_next packs (Quarantine ∷ Outbox ∷ Seen ∷ []) (c.in_ok-messages.ensures.same fourth) c.read_messages.ensures.crash
    ((_, c.in_ok-messages.ensures.quarantine fourth), ((_, c.in_ok-messages.ensures.outbox fourth), ((_, c.in_ok-messages.ensures.seen fourth), tt))) in
    fails_since bad messages (c.in_err-recalls.ensures.cause clean messages.read)
