-- Every definition of the rules, opened together: a claim that computes says `unfolding computes`. Assumes nothing.
use Rattle.rules.specs.Basic as Basic
use Rattle.rules.specs.Number as Number
use Rattle.rules.specs.Bits as Bits
use Rattle.rules.specs.Mask as Mask
use Rattle.rules.specs.Privileges as Privileges
use Rattle.rules.specs.Group as Group
use Rattle.rules.specs.Token as Token
use Rattle.rules.specs.Sid as Sid
use Rattle.rules.specs.SidTable as SidTable
use Rattle.rules.specs.Given as goal
use Rattle.rules.specs.SidRows as SidRows
use Rattle.rules.specs.Table as Table
use Rattle.rules.specs.Handle as Handle
use Rattle.rules.specs.Station as Station
use Rattle.rules.specs.Pair as Pair
use Rattle.rules.specs.State as State
use Rattle.rules.specs.Index as Index
use Rattle.rules.specs.Entry as Entry
use Rattle.rules.specs.Condition as Condition
use Rattle.rules.specs.Refusal as Refusal
use Rattle.rules.specs.Decision as Decision
use Rattle.rules.specs.Request as Request
use Rattle.rules.specs.OpenClose as OpenClose
use Rattle.rules.specs.Create as Create
use Rattle.rules.specs.Query as Query
use Rattle.rules.specs.AdjustPrivileges as AdjustPrivileges
use Rattle.rules.specs.AdjustGroups as AdjustGroups
use Rattle.rules.specs.AdjustScope as AdjustScope
use Rattle.rules.specs.AdjustDefaults as AdjustDefaults
use Rattle.rules.specs.Duplicate as Duplicate
use Rattle.rules.specs.Restrict as Restrict
use Rattle.rules.specs.Install as Install
use Rattle.rules.specs.Impersonate as Impersonate
use Rattle.rules.specs.Link as Link
use Rattle.rules.specs.Evaluate as Evaluate
use Rattle.rules.specs.Evaluating as Evaluating
use Rattle.rules.specs.Serve as Serve
use Rattle.rules.specs.Frame as Frame
use Rattle.rules.specs.Model as Model
use Rattle.rules.specs.Valid as Valid
use Rattle.rules.specs.Ladder as Ladder
use Rattle.rules.specs.Run as Run
use Rattle.rules.specs.Growth as Growth
use Rattle.rules.specs.Acting as Acting
use Rattle.rules.specs.Entering as Entering
use Rattle.rules.specs.Linking as Linking
use Rattle.rules.specs.Restore as Restore
use Rattle.rules.specs.Memory as Memory

unfoldable pub computes : Unit {0}
unfolding
    Basic.is_below Basic.same Basic.implies Basic.both_or_neither Basic.all Basic.filter Basic.member Basic.distinct Basic.non_zero Basic.is_empty Basic.change_at
    Number.low_first Number.encode_in Number.encode Number.encode_all Number.longer Number.read_number
    Bits.has Bits.without Bits.within
    Mask.permits Mask.valid_mask
    Privileges.exists Privileges.is_enabled Privileges.enable Privileges.disable Privileges.remove Privileges.reset Privileges.mark_used Privileges.only_used Privileges.granted
    Group.no_group Group.sid_of Group.is_mandatory Group.is_enabled_by_default Group.is_enabled Group.is_owner Group.is_deny_only Group.is_logon Group.is_fixed Group.with_enabled Group.denied
    Token.sid_at Token.is_restricted Token.primary_of Token.no_limits Token.no_defaults Token.new_token Token.start_token Token.with_privileges Token.with_groups Token.with_defaults Token.with_elevation Token.with_scope Token.next_modified
    Sid.valid_sid Sid.same_sid Sid.to_bytes Sid.from_bytes Sid.sub_bytes Sid.packed Sid.sid_size Sid.is_packed Sid.subs_in Sid.sid_in Sid.read_sid
    SidTable.number_at SidTable.is_number SidTable.place_of_number SidTable.sid_of SidTable.is_in SidTable.place_of SidTable.number_of SidTable.entered SidTable.fits_table SidTable.nt_sid SidTable.start_sids SidTable.starts_right SidTable.different SidTable.sids_valid
    goal.entered_by goal.entered_all goal.number_in goal.group_sid goal.group_in
    SidRows.pairs SidRows.halves SidRows.sid_row SidRows.count_in SidRows.row_sid SidRows.zero_from SidRows.is_row SidRows.less SidRows.rising_from SidRows.rising SidRows.rank SidRows.insert SidRows.order SidRows.row_at SidRows.ordered SidRows.write_sids SidRows.read_sids SidRows.sids_at SidRows.sid_words_valid
    Table.is_live Table.or_else Table.lives Table.some_free Table.found Table.with_slots Table.placed Table.can_add Table.added Table.exchanged Table.retained
    Handle.no_handle Handle.is_handle
    Station.no_client Station.start_station Station.with_token Station.with_client Station.with_pending Station.cleared Station.broken_off
    Pair.no_pair Pair.is_of Pair.has Pair.partner
    State.start State.with_tokens State.with_handles State.with_stations State.with_pairs State.with_sids State.entering State.station_at State.change_station State.set_token State.client_at State.set_client State.number_of State.is_numbered State.no_token State.token_of State.caller_number State.caller State.held State.put_token State.change_token State.used_on State.used State.can_add_token State.add_token State.handle_number State.find_handle State.handle_of State.can_add_handle State.add_handle State.drop_handle State.pair_of State.has_pair State.can_link State.set_pair State.handle_token State.station_token State.station_client State.client_token State.elevated_token State.filtered_token State.references State.is_referred State.released
    Index.free_index Index.found_index Index.freed_one
    Entry.key_of Entry.is_only Entry.valid_entries Entry.apply_all
    Condition.has_group Condition.holds Condition.all_hold Condition.any_holds Condition.known Condition.all_known Condition.depth Condition.deepest
    Refusal.refusal Refusal.capacity_below
    Decision.carried_out Decision.with_handle Decision.can_issue Decision.issued
    Request.follow Request.◌>>=◌ Request.give Request.end Request.byte Request.times Request.u16 Request.u32 Request.u64 Request.sid_number Request.packed_sid Request.group Request.entry Request.unknown Request.conditions Request.list_layout Request.negated_layout Request.named_layout Request.kinds Request.condition Request.number_layout Request.entries_layout Request.create_layout Request.query_layout Request.scope_layout Request.defaults_layout Request.duplicate_layout Request.restrict_layout Request.link_layout Request.evaluate_layout Request.layouts Request.parse
    OpenClose.open_own OpenClose.close
    Create.valid_pair Create.valid_integrity Create.valid_create Create.entered Create.create_numbered Create.create
    Query.pairs Query.words Query.classes Query.class_bytes Query.query
    AdjustPrivileges.is_reset AdjustPrivileges.valid_entry AdjustPrivileges.applied AdjustPrivileges.adjusted AdjustPrivileges.named AdjustPrivileges.previous AdjustPrivileges.report AdjustPrivileges.adjusted_token AdjustPrivileges.adjust
    AdjustGroups.is_reset AdjustGroups.valid_entry AdjustGroups.is_protected AdjustGroups.unprotected AdjustGroups.applied AdjustGroups.reset_group AdjustGroups.adjusted AdjustGroups.enabled_bits AdjustGroups.enabled_words AdjustGroups.adjusted_token AdjustGroups.adjust
    AdjustScope.scoped_token AdjustScope.scope
    AdjustDefaults.valid_owner AdjustDefaults.valid_group AdjustDefaults.valid_dacl AdjustDefaults.valid_defaults AdjustDefaults.or_kept AdjustDefaults.adjusted AdjustDefaults.adjusted_token AdjustDefaults.adjust
    Duplicate.retyped Duplicate.copied Duplicate.nobody Duplicate.anonymous_copy Duplicate.is_anonymous Duplicate.duplicated Duplicate.valid_level Duplicate.valid_duplicate Duplicate.duplicate
    Restrict.restricting_to Restrict.narrows Restrict.valid_restrict Restrict.denied_all Restrict.limited Restrict.restricted Restrict.restrict_numbered Restrict.restrict
    Install.matches Install.marked Install.install
    Impersonate.alike Impersonate.passes Impersonate.may_act Impersonate.in_force Impersonate.marked Impersonate.impersonate Impersonate.revert
    Link.with_both Link.is_of_session Link.linkable Link.linked Link.link Link.partner_of Link.clone Link.get_linked
    Evaluate.evaluate Evaluating.count Evaluating.written Evaluating.written_all Evaluating.fits Evaluating.all_fit Evaluating.evaluation
    Serve.rule Serve.decided Serve.decision Serve.serve
    Frame.frame Frame.second_of Frame.length_of Frame.framed_by Frame.framed
    Model.joined Model.byte_at Model.step Model.refused Model.fed_on Model.fed_from Model.feed Model.reconnect
    Valid.is_byte Valid.is32 Valid.is64 Valid.between Valid.identity_valid Valid.privileges_valid Valid.group_valid Valid.groups_valid Valid.limits_valid Valid.defaults_valid Valid.token_valid Valid.handle_valid Valid.is_part Valid.stream_valid Valid.table_valid Valid.is_token Valid.primary_at_station Valid.client_fits Valid.client_at_stations Valid.level_valid Valid.session_of Valid.pair_fits Valid.pair_valid Valid.pairs_valid Valid.sid_numbers Valid.is_listed Valid.valid
    Ladder.failing Ladder.first_of Ladder.status
    Run.returned Run.after Run.noted Run.answered Run.of_bytes Run.events_of Run.events Run.happens Run.state_of Run.told Run.after_events Run.answers_to Run.station_of Run.noted_at Run.timed Run.place_of Run.told_at Run.timed_to Run.until_used Run.outcome_of Run.outcome_at Run.outcomes Run.served_by Run.answer_to Run.answered_at Run.answered_from Run.OneByOne
    Growth.Live Growth.LiveHandle Growth.source_at Growth.partner_at Growth.source_of Growth.Copying Growth.makes_root Growth.Creating
    Acting.sets_client Acting.ClientKept
    Entering.given_by
    Linking.PairsKept Linking.ElevationKept
    Restore.but_used Restore.PrivilegesKept Restore.report_layout Restore.word_of Restore.was_enabled Restore.undoing Restore.put_back Restore.pairs Restore.written Restore.switches Restore.PutsBack Restore.CanPutBack
    Memory.sized Memory.mark Memory.pack Memory.unpack Memory.head Memory.token_row Memory.dacl_row Memory.slot_row Memory.slot_dacl Memory.slot_handle Memory.station_row Memory.pair_row Memory.slot_pair Memory.pending_row Memory.sections Memory.control Memory.encode Memory.identity_at Memory.privileges_at Memory.groups_at Memory.limits_at Memory.defaults_at Memory.token_at Memory.slot_at Memory.handle_at Memory.station_at Memory.pair_at Memory.decode Memory.same_handle Memory.same_handles Memory.same_memory Memory.is_image Memory.valid
computes = tt
